-- The hand at the key's shard is one of the file there, and stays one; the others are as they were.
use Rattle.std.proofs.Common.{lit<}
use Rattle.lh_shards.proofs.OneShard.{at_same, of_made}
use Rattle.lh_shards.proofs.shards.SizedShards.read_into.Goals as goal

pub read_into-requires : goal.read_into-requires
read_into-requires g c = (lit< tt, (c.requires.each _ _ _ c.file.ensures c.at.ensures.value).of)

pub returns-clause-of : goal.returns-clause-of
returns-clause-of g c =
    of_made c.requires c.route-shard.ensures.home c.route-shard.ensures.key c.file.ensures c.at.ensures.value
    c.read_into.ensures.served

pub returns-clause-entered : goal.returns-clause-entered
returns-clause-entered g c traced =
    at_same _ c.route-shard.ensures.home c.file.ensures c.at.ensures.value
    (rw c.route-shard.ensures.key at (c.read_into.ensures.entered traced))
