-- The hand at the key's shard is one of the file there, and stays one; the others are as they were.
use Rattle.std.proofs.Common.{lit<}
use Rattle.lh_shards.proofs.OneShard.{at_same, makes, of_made}
use Rattle.lh_shards.proofs.shards.SizedShards.insert.Goals as goal

pub insert-requires : goal.insert-requires
insert-requires g c = (
  lit< tt,
  (
    (c.requires.of.each _ _ _ c.file.ensures c.at.ensures.value).of,
    rw c.route-shard.ensures.key c.requires.fits,
  ),
)

pub returns-clause-of : goal.returns-clause-of
returns-clause-of g c =
    of_made c.requires.of c.route-shard.ensures.home c.route-shard.ensures.key c.file.ensures c.at.ensures.value
    (makes c.insert.result c.insert.ensures.served)

pub returns-clause-entered : goal.returns-clause-entered
returns-clause-entered g c traced =
    at_same _ c.route-shard.ensures.home c.file.ensures c.at.ensures.value
    (c.insert.ensures.entered traced)
