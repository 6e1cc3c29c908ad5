use Rattle.std.specs.Prelude.{◌≡◌, All}
use Rattle.lh_file.specs.FileState.{IsOf}
use Rattle.lh_gates_tests.proofs.tests.crowd.fn.crowd.scope.Given as goal

abbrev pub invariant-loop-first : goal.invariant-loop-first
invariant-loop-first g l = record {
  first : IsOf l.file.now.state l.all;
  each : All (λ worker. worker.promise.0.now ≡ l.file.now) l.workers.items;
}
