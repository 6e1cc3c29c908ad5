use Rattle.lhash.proofs.ShardHands.{joined}
use Rattle.lhash.proofs.shards_crew.ShardsTracedSharedTable.join.Goals as goal

pub returns-in-Ok-clause-both : goal.returns-in-Ok-clause-both
returns-in-Ok-clause-both g c =
    joined c.hands_keep_their_shares.ensures.joined c.args.self.now c.args.first c.args.second c.in-Ok.joined
    c.in-Ok.ensures.of c.in-Ok.ensures.united.ok
