-- The brand names the table of each shard.
use Rattle.std.specs.Prelude.{true}
use Rattle.lh_shards.specs.Openings.{tables_of}
use Rattle.lh_shards_tests.proofs.tests.looks.each_traced_shard_can_be_looked_at.Given as goal

abbrev pub ghosts-look_at_traced : goal.ghosts-look_at_traced
ghosts-look_at_traced g a = record { named = true; tables = tables_of a.openings }
