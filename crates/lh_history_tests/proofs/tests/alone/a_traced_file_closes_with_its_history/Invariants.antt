use Rattle.std.specs.Prelude.{true}
use Rattle.lh_history_tests.proofs.tests.alone.a_traced_file_closes_with_its_history.Given as goal

abbrev pub ghosts-hundred_of : goal.ghosts-hundred_of
ghosts-hundred_of g a = record { named = true; tables = λ shard. a.opening.table }
