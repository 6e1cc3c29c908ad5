-- The hand of the shard is one of its file, and stays one; the others are as they were.
use Rattle.std.proofs.Common.{lit<}
use Rattle.lh_shards.proofs.OneShard.{at_place, of_told}
use Rattle.lh_shards.proofs.shards.SizedShards.told.Goals as goal

pub told-requires : goal.told-requires
told-requires g c = (lit< tt, (c.requires.of.each _ _ _ c.file.ensures c.at.ensures.value).of)

pub returns-clause-told : goal.returns-clause-told
returns-clause-told g c = at_place _ c.file.ensures c.at.ensures.value c.told.ensures

pub returns-clause-of : goal.returns-clause-of
returns-clause-of g c = of_told c.args.shard c.requires.of c.file.ensures c.at.ensures.value c.told.ensures
