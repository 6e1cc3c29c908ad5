use Rattle.lh_file.specs.FileState.{IsOf}
use Rattle.lh_hands_tests.proofs.tests.hands.split_thrice.Given as goal

abbrev pub invariant-loop-old : goal.invariant-loop-old
invariant-loop-old g l = IsOf l.file.state l.hand
