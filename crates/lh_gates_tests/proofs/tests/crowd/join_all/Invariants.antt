use Rattle.std.specs.Prelude.{◌≡◌, All}
use Rattle.std.specs.Vec.Iter.{into_iter_items}
use Rattle.lh_file.specs.FileState.{IsOf}
use Rattle.lh_gates_tests.proofs.tests.crowd.join_all.Given as goal

abbrev pub invariant-loop-worker : goal.invariant-loop-worker
invariant-loop-worker g l = record {
  first : IsOf l.file.state l.all;
  each : All (λ worker. worker.promise.0.now ≡ l.file) (into_iter_items l.worker-iterator);
}
