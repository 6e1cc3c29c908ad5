-- Records that stand in their own shards are the parts of the map of all.
use Rattle.std.proofs.Common.{rules}
use Rattle.lh_shards.proofs.Wholes.{home_are_parts}
use Rattle.lh_shards.proofs.opening.SizedShards+Untraced+Unbranded+ROOM.open_from.Goals as goal

pub returns-clause-parts : goal.returns-clause-parts
returns-clause-parts g c = home_are_parts c.args.listings.now (search rules)
