use Rattle.std.specs.Prelude.{true}
use Rattle.lh_snapshot_tests.proofs.tests.scene.played.Given as goal

abbrev pub ghosts-play_traced : goal.ghosts-play_traced
ghosts-play_traced g a = record { named = true; tables = λ shard. a.opening.table }
