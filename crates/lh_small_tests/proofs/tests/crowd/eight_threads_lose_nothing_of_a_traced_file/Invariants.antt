use Rattle.std.specs.Prelude.{true}
use Rattle.lh_small_tests.proofs.tests.crowd.eight_threads_lose_nothing_of_a_traced_file.Given as goal

abbrev pub ghosts-left_in_opened : goal.ghosts-left_in_opened
ghosts-left_in_opened g a = record { named = true; tables = λ shard. a.opening.table }
