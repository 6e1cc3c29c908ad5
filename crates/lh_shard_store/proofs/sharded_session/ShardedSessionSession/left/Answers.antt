use Rattle.lh_shard_store.proofs.sharded_session.ShardedSessionSession.left.Goals as goal

pub returns-clause-most : goal.returns-clause-most
returns-clause-most g c = rw (← c.self.view_is) c.left.ensures.most
