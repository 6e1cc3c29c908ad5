use Rattle.std.specs.Prelude.{true}
use Rattle.lh_small_tests.proofs.tests.memory.used_traced.Given as goal

abbrev pub ghosts-used_opened : goal.ghosts-used_opened
ghosts-used_opened g a = record { named = true; tables = λ shard. a.opening.table }
