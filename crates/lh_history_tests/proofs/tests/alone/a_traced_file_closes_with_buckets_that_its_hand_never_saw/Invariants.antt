use Rattle.std.specs.Prelude.{true}
use Rattle.lh_history_tests.proofs.tests.alone.a_traced_file_closes_with_buckets_that_its_hand_never_saw.Given as goal

abbrev pub ghosts-five_of : goal.ghosts-five_of
ghosts-five_of g a = record { named = true; tables = λ shard. a.opening.table }
