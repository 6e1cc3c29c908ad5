use Rattle.std.specs.Prelude.{true}
use Rattle.lh_atomic_tests.proofs.tests.atomic.left_traced.Given as goal

abbrev pub ghosts-left_in : goal.ghosts-left_in
ghosts-left_in g a = record { named = true; tables = λ shard. a.opening.table }
