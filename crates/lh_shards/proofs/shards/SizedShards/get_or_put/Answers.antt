-- The hand at the key's shard is one of the file there, and stays one; the others are as they were.
use Rattle.std.proofs.Common.{lit<, ◌∙◌}
use Rattle.lh_shards.proofs.OneShard.{of_made}
use Rattle.lh_shards.proofs.shards.SizedShards.get_or_put.Goals as goal

pub get_or_put-requires : goal.get_or_put-requires
get_or_put-requires g c = (
  lit< tt,
  (
    (c.requires.of.each _ _ _ c.file.ensures c.at.ensures.value).of,
    rw c.route-shard.ensures.key c.requires.fits,
  ),
)

pub returns-clause-of : goal.returns-clause-of
returns-clause-of g c =
    of_made c.requires.of c.route-shard.ensures.home (c.get_or_put.ensures.by ∙ c.route-shard.ensures.key)
    c.file.ensures c.at.ensures.value c.get_or_put.ensures.made
