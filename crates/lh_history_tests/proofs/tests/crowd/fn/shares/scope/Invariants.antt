use Rattle.std.specs.Prelude.{◌≡◌, All}
use Rattle.std.specs.Vec.Iter.{into_iter_items}
use Rattle.lh_file.specs.FileState.{IsOf}
use Rattle.lh_history_tests.proofs.tests.crowd.fn.shares.scope.Given as goal

abbrev pub invariant-loop-first : goal.invariant-loop-first
invariant-loop-first g l = record {
  hand : IsOf l.file.now.state l.all;
  each : All (λ worker. worker.promise.0.now.state ≡ l.file.now.state) l.workers.items;
}

abbrev pub invariant-loop-worker : goal.invariant-loop-worker
invariant-loop-worker g l = record {
  hand : IsOf l.file.now.state l.all;
  each : All (λ worker. worker.promise.0.now.state ≡ l.file.now.state) (into_iter_items l.worker-iterator);
}
