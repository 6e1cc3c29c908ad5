use Rattle.std.specs.Prelude.{◌+◌}
use Rattle.std.proofs.Common.{rules}
use Rattle.lh_snapshot_tests.proofs.tests.threads.fn.beside.scope.Goals as goal

pub loop-worker-preserved : goal.loop-worker-preserved
loop-worker-preserved g c = record {
  hand = search rules;
  each = λ k d below. let h = c.loop-worker.invariant.each (k + 1) d in grind rules;
}
