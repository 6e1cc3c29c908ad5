use Rattle.lh_file.specs.FileState.{IsOf}
use Rattle.lh_snapshot_tests.proofs.tests.calls.draw_calls.Given as goal

abbrev pub invariant-loop-turn : goal.invariant-loop-turn
invariant-loop-turn g l = IsOf l.file.state l.hand
