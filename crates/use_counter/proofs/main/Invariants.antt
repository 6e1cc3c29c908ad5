use Rattle.std.proofs.Common.{true}
use Rattle.use_counter.proofs.main.Given as goal

abbrev pub ghosts-counted : goal.ghosts-counted
ghosts-counted g a = record { named = true; tables = λ shard. a.opening.table }
