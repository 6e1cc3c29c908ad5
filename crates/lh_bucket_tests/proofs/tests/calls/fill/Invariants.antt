use Rattle.std.proofs.Common.{◌≡◌}
use Rattle.lh_bucket_tests.proofs.tests.calls.fill.Given as goal

abbrev pub invariant-loop-key : goal.invariant-loop-key
invariant-loop-key g l = (g.B.Bucket.seen l.bucket).head ≡ (g.B.Bucket.seen l.initial.bucket).head
