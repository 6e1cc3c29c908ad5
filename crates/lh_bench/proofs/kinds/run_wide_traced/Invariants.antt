use Rattle.std.proofs.Common.{true}
use Rattle.lh_bench.proofs.kinds.run_wide_traced.Given as goal

abbrev pub ghosts-run_opened : goal.ghosts-run_opened
ghosts-run_opened g a = record { named = true; tables = λ shard. a.opening.table }
