use Rattle.lh_shards.proofs.Merging.{one_map_law}
use Rattle.lh_shards.proofs.laws.shards_are_one_map.Goals as goal

pub returns : goal.returns
returns c = one_map_law
