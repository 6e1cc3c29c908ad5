use Rattle.lh_shard_store.proofs.ShardCalls.{idle_itself, idle_after, made_after}
use Rattle.lh_shard_store.proofs.sharded_session.ShardedSessionSession.with_value.Goals as goal

pub returns-in_err-key-clause-err : goal.returns-in_err-key-clause-err
returns-in_err-key-clause-err g c = idle_itself _ _

pub returns-in_err-with_value-clause-err : goal.returns-in_err-with_value-clause-err
returns-in_err-with_value-clause-err g c =
    let e = c.in_err-with_value.ensures.served in rw (← c.self.view_is) (idle_after _ e e.does.1.err)

pub returns-clause-made : goal.returns-clause-made
returns-clause-made g c =
    let e = c.in_ok-with_value.ensures.served in
    rw (← c.self.view_is, ← c.in_ok-key.ensures.ok) (e.does.0, made_after _ _ e e.does.1.served, e.does.2)
