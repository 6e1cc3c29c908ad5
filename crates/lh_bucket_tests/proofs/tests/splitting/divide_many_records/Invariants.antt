use Rattle.std.proofs.Common.{◌≡◌}
use Rattle.lh_bucket_tests.proofs.tests.splitting.divide_many_records.Given as goal

abbrev pub invariant-loop-number : goal.invariant-loop-number
invariant-loop-number g l = (g.B.Bucket.seen l.old).head ≡ (g.B.Bucket.seen l.initial.old).head
