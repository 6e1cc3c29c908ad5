use Rattle.lh_file.specs.FileState.{IsOf}
use Rattle.lh_small_tests.proofs.tests.memory.are_told.Given as goal

abbrev pub invariant-loop-task : goal.invariant-loop-task
invariant-loop-task g l = IsOf l.file.state l.hand
