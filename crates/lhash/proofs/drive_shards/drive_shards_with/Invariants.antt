-- The brand names the table of each shard.
use Rattle.std.specs.Prelude.{true}
use Rattle.lh_shards.specs.Openings.{tables_of}
use Rattle.lhash.proofs.drive_shards.drive_shards_with.Given as goal

abbrev pub ghosts-driven_in : goal.ghosts-driven_in
ghosts-driven_in g a = record { named = true; tables = tables_of a.openings }
