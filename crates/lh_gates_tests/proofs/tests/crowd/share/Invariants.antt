use Rattle.lh_file.specs.FileState.{IsOf}
use Rattle.lh_gates_tests.proofs.tests.crowd.share.Given as goal

abbrev pub invariant-loop-turn : goal.invariant-loop-turn
invariant-loop-turn g l = IsOf l.file.state l.hand
