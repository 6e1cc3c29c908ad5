use Rattle.lh_shard_store.proofs.ShardCalls.{idle_itself, idle_after, made_after}
use Rattle.lh_shard_store.proofs.sharded_session.ShardedSessionSession.set.Goals as goal

pub returns-in_err-key-clause-err : goal.returns-in_err-key-clause-err
returns-in_err-key-clause-err g c = idle_itself _ _

pub returns-in_err-value-clause-err : goal.returns-in_err-value-clause-err
returns-in_err-value-clause-err g c = idle_itself _ _

pub returns-in_err-set-clause-err : goal.returns-in_err-set-clause-err
returns-in_err-set-clause-err g c =
    rw (← c.self.view_is) (idle_after _ c.in_err-set.ensures.served c.in_err-set.ensures.served.does.err)

pub returns-clause-made : goal.returns-clause-made
returns-clause-made g c =
    rw (← c.self.view_is, ← c.in_ok-key.ensures.ok, ← c.in_ok-value.ensures.ok)
    (made_after _ _ c.in_ok-set.ensures.served c.in_ok-set.ensures.served.does.served)
