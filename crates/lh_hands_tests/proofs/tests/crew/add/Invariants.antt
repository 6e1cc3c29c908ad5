use Rattle.lh_file.specs.FileState.{IsOf}
use Rattle.lh_hands_tests.proofs.tests.crew.add.Given as goal

abbrev pub invariant-loop-letter : goal.invariant-loop-letter
invariant-loop-letter g l = IsOf l.file.state l.hand
