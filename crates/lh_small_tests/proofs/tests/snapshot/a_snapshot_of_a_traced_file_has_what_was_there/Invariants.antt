use Rattle.std.specs.Prelude.{true}
use Rattle.lh_small_tests.proofs.tests.snapshot.a_snapshot_of_a_traced_file_has_what_was_there.Given as goal

abbrev pub ghosts-snapshot_of_opened : goal.ghosts-snapshot_of_opened
ghosts-snapshot_of_opened g a = record { named = true; tables = λ shard. a.opening.table }
