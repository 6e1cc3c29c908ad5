use Rattle.std.proofs.Common.{◌≡◌}
use Rattle.lh_bucket_tests.proofs.tests.calls.expect_replies.Given as goal

abbrev pub invariant-loop-call : goal.invariant-loop-call
invariant-loop-call g l = (g.B.Bucket.seen l.bucket).head ≡ (g.B.Bucket.seen l.initial.bucket).head
