use Rattle.std.specs.Prelude.{true}
use Rattle.lh_atomic_tests.proofs.tests.memory.use_both.Given as goal

abbrev pub ghosts-used_traced : goal.ghosts-used_traced
ghosts-used_traced g a = record { named = true; tables = λ shard. a.opening.table }
