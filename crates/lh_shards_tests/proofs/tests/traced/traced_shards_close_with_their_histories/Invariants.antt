-- The brand names the table of each shard.
use Rattle.std.specs.Prelude.{true}
use Rattle.lh_shards.specs.Openings.{tables_of}
use Rattle.lh_shards_tests.proofs.tests.traced.traced_shards_close_with_their_histories.Given as goal

abbrev pub ghosts-called : goal.ghosts-called
ghosts-called g a = record { named = true; tables = tables_of a.openings }
