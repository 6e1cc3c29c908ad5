-- The brand names the table of each shard.
use Rattle.std.specs.Prelude.{true}
use Rattle.lh_shards.specs.Openings.{tables_of}
use Rattle.lh_shards_tests.proofs.tests.traced.told_numbers_order_acts_of_two_shards.Given as goal

abbrev pub ghosts-exchanged : goal.ghosts-exchanged
ghosts-exchanged g a = record { named = true; tables = tables_of a.openings }
