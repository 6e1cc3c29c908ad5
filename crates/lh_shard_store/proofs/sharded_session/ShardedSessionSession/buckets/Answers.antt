use Rattle.lh_shard_store.proofs.ShardCalls.{counting_know}
use Rattle.lh_shard_store.proofs.sharded_session.ShardedSessionSession.buckets.Goals as goal

pub returns-clause-idle : goal.returns-clause-idle
returns-clause-idle g c = rw (← c.self.view_is) (counting_know _ _ _ _ c.self.invariant c.buckets.ensures.sum)

pub returns-clause-counts : goal.returns-clause-counts
returns-clause-counts g c = rw (← c.self.view_is) c.buckets.ensures.sum
