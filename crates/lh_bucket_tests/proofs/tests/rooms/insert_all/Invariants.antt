use Rattle.std.proofs.Common.{◌≡◌}
use Rattle.lh_bucket_tests.proofs.tests.rooms.insert_all.Given as goal

abbrev pub invariant-loop-record : goal.invariant-loop-record
invariant-loop-record g l = l.bucket.head ≡ l.initial.bucket.head
