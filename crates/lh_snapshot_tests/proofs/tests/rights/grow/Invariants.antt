use Rattle.lh_file.specs.FileState.{IsOf}
use Rattle.lh_snapshot_tests.proofs.tests.rights.grow.Given as goal

abbrev pub invariant-loop-split : goal.invariant-loop-split
invariant-loop-split g l = IsOf l.file.state l.hand
