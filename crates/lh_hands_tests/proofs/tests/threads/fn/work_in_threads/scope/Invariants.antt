use Rattle.std.specs.Prelude.{◌≡◌, All}
use Rattle.lh_file.specs.FileState.{IsOf}
use Rattle.lh_hands_tests.proofs.tests.threads.fn.work_in_threads.scope.Given as goal

abbrev pub invariant-loop-i : goal.invariant-loop-i
invariant-loop-i g l = record {
  first : IsOf l.file.now.state l.all;
  each : All (λ worker. worker.promise.0.now ≡ l.file.now) l.workers.items;
}
