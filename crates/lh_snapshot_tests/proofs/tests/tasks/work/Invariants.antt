use Rattle.lh_file.specs.FileState.{IsOf}
use Rattle.lh_snapshot_tests.proofs.tests.tasks.work.Given as goal

abbrev pub invariant-loop-task : goal.invariant-loop-task
invariant-loop-task g l = IsOf l.file.state l.hand
