use Rattle.std.proofs.Common.{true}
use Rattle.lh_bench.proofs.kinds.run_small_traced.Given as goal

abbrev pub ghosts-run_small_opened : goal.ghosts-run_small_opened
ghosts-run_small_opened g a = record { named = true; tables = λ shard. a.opening.table }
