use Rattle.std.specs.Prelude.{◌≡◌}
use Rattle.lh_file.specs.FileState.{IsOf}
use Rattle.lh_bench.proofs.on_file.met_by_scan.Given as goal

abbrev pub invariant-loop : goal.invariant-loop
invariant-loop g l = IsOf l.file.state l.hand × (l.scan.initial ≡ l.file.state.config.initial)
