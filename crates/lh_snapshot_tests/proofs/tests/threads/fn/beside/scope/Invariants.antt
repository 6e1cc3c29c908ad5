use Rattle.std.specs.Prelude.{◌≡◌, All}
use Rattle.std.specs.Vec.Iter.{into_iter_items}
use Rattle.lh_file.specs.FileState.{IsOf}
use Rattle.lh_snapshot_tests.proofs.tests.threads.fn.beside.scope.Given as goal

abbrev pub invariant-loop-tasks : goal.invariant-loop-tasks
invariant-loop-tasks g l = record {
  hand : IsOf l.file.now.state l.all.hand;
  each : All (λ worker. worker.promise.0.now.state ≡ l.file.now.state) l.workers.items;
}

abbrev pub invariant-loop-worker : goal.invariant-loop-worker
invariant-loop-worker g l = record {
  hand : IsOf l.file.now.state l.all.hand;
  each : All (λ worker. worker.promise.0.now.state ≡ l.file.now.state) (into_iter_items l.worker-iterator);
}
