use Rattle.lh_shards.proofs.Owning.{called_law, same_law, divided_law, joined_law}
use Rattle.lh_shards.proofs.laws.hands_keep_their_shares.Goals as goal

pub returns-clause-called : goal.returns-clause-called
returns-clause-called c = called_law

pub returns-clause-same : goal.returns-clause-same
returns-clause-same c = same_law

pub returns-clause-divided : goal.returns-clause-divided
returns-clause-divided c = divided_law c.hands_keep_their_shares.ensures.divided

pub returns-clause-joined : goal.returns-clause-joined
returns-clause-joined c = joined_law c.hands_keep_their_shares.ensures.joined
