-- The hand at the key's shard is one of the file there, and stays one; the others are as they were.
use Rattle.std.proofs.Common.{lit<, ◌∙◌}
use Rattle.lh_shards.proofs.OneShard.{of_made}
use Rattle.lh_shards.proofs.shards.SizedShards.take.Goals as goal

pub take-requires : goal.take-requires
take-requires g c = (lit< tt, (c.requires.each _ _ _ c.file.ensures c.at.ensures.value).of)

pub returns-clause-of : goal.returns-clause-of
returns-clause-of g c =
    of_made c.requires c.route-shard.ensures.home (c.take.ensures.by ∙ c.route-shard.ensures.key) c.file.ensures
    c.at.ensures.value c.take.ensures.made
