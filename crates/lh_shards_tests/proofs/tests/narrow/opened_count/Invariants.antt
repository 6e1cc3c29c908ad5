-- The brand names the table of each shard.
use Rattle.std.specs.Prelude.{true}
use Rattle.lh_shards.specs.Openings.{tables_of}
use Rattle.lh_shards_tests.proofs.tests.narrow.opened_count.Given as goal

abbrev pub ghosts-count_of : goal.ghosts-count_of
ghosts-count_of a = record { named = true; tables = tables_of a.openings }
