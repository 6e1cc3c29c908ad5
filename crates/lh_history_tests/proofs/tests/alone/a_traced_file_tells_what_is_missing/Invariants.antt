use Rattle.std.specs.Prelude.{true}
use Rattle.lh_history_tests.proofs.tests.alone.a_traced_file_tells_what_is_missing.Given as goal

abbrev pub ghosts-loss_of : goal.ghosts-loss_of
ghosts-loss_of g a = record { named = true; tables = λ shard. a.opening.table }
