use Rattle.lh_addr.proofs.GrowthLaws.{level_reaches}
use Rattle.lh_addr.proofs.laws.levels_reach_their_buckets.Goals as goal

pub returns : goal.returns
returns c = level_reaches
