use Rattle.lh_shard_store.proofs.ShardCalls.{know_themselves}
use Rattle.lh_shard_store.proofs.sharded_session.ShardedSessionSession.len.Goals as goal

pub returns-clause-idle : goal.returns-clause-idle
returns-clause-idle g c = rw (← c.self.view_is, c.load-load.ensures.sum.same) (know_themselves _)
