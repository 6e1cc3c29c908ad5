use Rattle.lh_shard_store.proofs.ShardCalls.{idle_itself, idle_after, at_once_after}
use Rattle.lh_shard_store.proofs.sharded_session.ShardedSessionSession.get_or_put.Goals as goal

pub returns-in_err-key-clause-err : goal.returns-in_err-key-clause-err
returns-in_err-key-clause-err g c = idle_itself _ _

pub returns-in_err-value-clause-err : goal.returns-in_err-value-clause-err
returns-in_err-value-clause-err g c = idle_itself _ _

pub returns-in_err-get_or_put-clause-err : goal.returns-in_err-get_or_put-clause-err
returns-in_err-get_or_put-clause-err g c =
    let e = c.in_err-get_or_put.ensures.at_once in rw (← c.self.view_is) (idle_after _ e e.does.made.err)

pub returns-clause-made : goal.returns-clause-made
returns-clause-made g c =
    rw (← c.self.view_is, ← c.in_ok-key.ensures.ok, ← c.in_ok-value.ensures.ok)
    (at_once_after _ _ _ c.in_ok-get_or_put.ensures.at_once)
