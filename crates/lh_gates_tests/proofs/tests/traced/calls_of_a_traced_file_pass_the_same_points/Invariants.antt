use Rattle.std.proofs.Common.{true}
use Rattle.lh_gates_tests.proofs.tests.traced.calls_of_a_traced_file_pass_the_same_points.Given as goal

abbrev pub ghosts-told_of : goal.ghosts-told_of
ghosts-told_of g a = record { named = true; tables = λ shard. a.opening.table }
