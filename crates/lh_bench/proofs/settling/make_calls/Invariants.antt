use Rattle.lh_file.specs.FileState.{IsOf}
use Rattle.lh_bench.proofs.settling.make_calls.Given as goal

abbrev pub invariant-loop : goal.invariant-loop
invariant-loop g l = IsOf l.file.state l.hand
