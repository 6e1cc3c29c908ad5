use Rattle.std.proofs.Common.{◌≡◌}
use Rattle.lh_bucket_tests.proofs.tests.memory.grow.Given as goal

abbrev pub invariant-loop-place : goal.invariant-loop-place
invariant-loop-place g l = (g.B.Bucket.seen l.old).head ≡ (g.B.Bucket.seen l.initial.old).head
