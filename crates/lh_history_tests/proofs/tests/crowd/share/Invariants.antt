use Rattle.lh_history_tests.specs.Crowds.{IsFree}
use Rattle.lh_history_tests.proofs.tests.crowd.share.Given as goal

abbrev pub invariant-loop-turn : goal.invariant-loop-turn
invariant-loop-turn g l = IsFree l.file.state l.hand
