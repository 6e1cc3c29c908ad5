use Rattle.std.specs.Prelude.{true}
use Rattle.lh_history_tests.proofs.tests.crowd.eight_threads_leave_one_history_until_enough_met.Given as goal

abbrev pub ghosts-crowded : goal.ghosts-crowded
ghosts-crowded g a = record { named = true; tables = λ shard. a.opening.table }
