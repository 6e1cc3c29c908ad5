use Rattle.lh_file.specs.FileState.{IsOf}
use Rattle.lh_hands_tests.proofs.tests.threads.work.Given as goal

abbrev pub invariant-loop-turn : goal.invariant-loop-turn
invariant-loop-turn g l = IsOf l.file.state l.hand
