-- Hands that have given calls, and those that got them, are of the same files.
use Rattle.lh_shards.proofs.Giving.{given_are_of, kept_are_of}
use Rattle.lh_shards.proofs.shards.SizedShards.split_hands.Goals as goal

pub returns-clause-of : goal.returns-clause-of
returns-clause-of g c = kept_are_of _ _ _ _ c.requires c.in_ok-divided.ensures.kept

pub returns-clause-given : goal.returns-clause-given
returns-clause-given g c = given_are_of _ _ _ _ c.requires c.in_ok-divided.ensures.given
