use Rattle.std.specs.Prelude.{◌≡◌}
use Rattle.lh_file.specs.FileState.{IsOf}
use Rattle.lh_snapshot_tests.proofs.tests.scans.scan.Given as goal

abbrev pub invariant-loop-turn : goal.invariant-loop-turn
invariant-loop-turn g l = IsOf l.file.state l.hand × (l.scan.initial ≡ l.file.state.config.initial)
