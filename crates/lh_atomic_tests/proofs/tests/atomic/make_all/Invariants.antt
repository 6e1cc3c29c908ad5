use Rattle.lh_file.specs.FileState.{IsOf}
use Rattle.lh_atomic_tests.proofs.tests.atomic.make_all.Given as goal

abbrev pub invariant-loop-task : goal.invariant-loop-task
invariant-loop-task g l = IsOf l.file.state l.hand
