use Rattle.lh_shard_store.proofs.sharded_session.ShardedSessionSession.told.Goals as goal

pub returns : goal.returns
returns g c = rw (← c.self.view_is) c.acts.ensures.sum
