-- Empty listings are the parts of the empty map.
use Rattle.lh_shards.proofs.Beginnings.{empties_are_parts}
use Rattle.lh_shards.proofs.listings.empty_listings.Goals as goal

pub returns-clause-parts : goal.returns-clause-parts
returns-clause-parts c = empties_are_parts c.args.config c.loop-shard.listings.items c.loop-shard.invariant.each
