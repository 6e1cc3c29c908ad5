use Rattle.lh_file.specs.FileState.{IsOf}
use Rattle.lh_file_tests.proofs.tests.turns.take_turns.Given as goal

abbrev pub invariant-loop-hand : goal.invariant-loop-hand
invariant-loop-hand g l = IsOf l.file.state l.first × IsOf l.file.state l.second
