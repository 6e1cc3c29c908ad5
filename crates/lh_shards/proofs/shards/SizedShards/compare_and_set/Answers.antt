-- The hand at the key's shard is one of the file there, and stays one; the others are as they were.
use Rattle.std.proofs.Common.{lit<, ◌∙◌}
use Rattle.lh_shards.proofs.OneShard.{of_made}
use Rattle.lh_shards.proofs.shards.SizedShards.compare_and_set.Goals as goal

pub compare_and_set-requires : goal.compare_and_set-requires
compare_and_set-requires g c = (
  lit< tt,
  (
    (c.requires.of.each _ _ _ c.file.ensures c.at.ensures.value).of,
    rw c.route-shard.ensures.key c.requires.fits,
  ),
)

pub returns-clause-of : goal.returns-clause-of
returns-clause-of g c =
    of_made c.requires.of c.route-shard.ensures.home (c.compare_and_set.ensures.by ∙ c.route-shard.ensures.key)
    c.file.ensures c.at.ensures.value c.compare_and_set.ensures.made
