use Rattle.lh_shards.proofs.TracedShards.{traced_law}
use Rattle.lh_shards.proofs.laws.traced_shards_are_settled.Goals as goal

pub returns : goal.returns
returns c = traced_law
