use Rattle.std.proofs.Common.{rules, ◌+◌}
use Rattle.lh_hands_tests.proofs.tests.threads.join_all.Goals as goal

pub loop-worker-preserved : goal.loop-worker-preserved
loop-worker-preserved g c =
    record { first = search rules; each = λ k d below. let h = c.loop-worker.invariant.each (k + 1) d in grind rules }
