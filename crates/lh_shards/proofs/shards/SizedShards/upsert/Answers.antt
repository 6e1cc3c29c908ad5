-- The hand at the key's shard is one of the file there, and stays one; the others are as they were.
use Rattle.std.proofs.Common.{lit<, ◌∙◌}
use Rattle.lh_shards.proofs.OneShard.{of_made}
use Rattle.lh_shards.proofs.shards.SizedShards.upsert.Goals as goal

pub upsert-requires : goal.upsert-requires
upsert-requires g c = (
  lit< tt,
  (
    (c.requires.of.each _ _ _ c.file.ensures c.at.ensures.value).of,
    rw c.route-shard.ensures.key c.requires.fits,
  ),
)

pub returns-clause-of : goal.returns-clause-of
returns-clause-of g c =
    of_made c.requires.of c.route-shard.ensures.home (c.upsert.ensures.by ∙ c.route-shard.ensures.key) c.file.ensures
    c.at.ensures.value c.upsert.ensures.made
