-- The hand at the key's shard is one of the file there, and stays one; the others are as they were.
use Rattle.std.proofs.Common.{lit<}
use Rattle.lh_shards.proofs.OneShard.{at_same, makes, of_made}
use Rattle.lh_shards.proofs.shards.SizedShards.delete.Goals as goal

pub delete-requires : goal.delete-requires
delete-requires g c = (lit< tt, (c.requires.each _ _ _ c.file.ensures c.at.ensures.value).of)

pub returns-clause-of : goal.returns-clause-of
returns-clause-of g c =
    of_made c.requires c.route-shard.ensures.home c.route-shard.ensures.key c.file.ensures c.at.ensures.value
    (makes c.delete.result c.delete.ensures.served)

pub returns-clause-entered : goal.returns-clause-entered
returns-clause-entered g c traced =
    at_same _ c.route-shard.ensures.home c.file.ensures c.at.ensures.value
    (c.delete.ensures.entered traced)
