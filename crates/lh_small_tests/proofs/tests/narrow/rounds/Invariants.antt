-- The hand stays one of the file.
use Rattle.lh_file.specs.FileState.{IsOf}
use Rattle.lh_small_tests.proofs.tests.narrow.rounds.Given as goal

abbrev pub invariant-loop-number : goal.invariant-loop-number
invariant-loop-number g l = IsOf l.file.state l.hand
