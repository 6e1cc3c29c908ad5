use Rattle.lh_file.specs.FileState.{IsOf}
use Rattle.lh_gates_tests.proofs.tests.play.work.Given as goal

abbrev pub invariant-loop-task : goal.invariant-loop-task
invariant-loop-task g l = IsOf l.file.state l.hand
