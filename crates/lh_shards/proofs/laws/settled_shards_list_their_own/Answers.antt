use Rattle.lh_shards.proofs.Listed.{listed_law}
use Rattle.lh_shards.proofs.laws.settled_shards_list_their_own.Goals as goal

pub returns : goal.returns
returns c = listed_law
