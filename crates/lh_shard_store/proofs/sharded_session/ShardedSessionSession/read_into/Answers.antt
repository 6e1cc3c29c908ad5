use Rattle.lh_shard_store.proofs.ShardCalls.{idle_itself, idle_after, made_after}
use Rattle.lh_shard_store.proofs.sharded_session.ShardedSessionSession.read_into.Goals as goal

pub returns-in_err-key-clause-err : goal.returns-in_err-key-clause-err
returns-in_err-key-clause-err g c = idle_itself _ _

pub returns-in_err-read_into-clause-err : goal.returns-in_err-read_into-clause-err
returns-in_err-read_into-clause-err g c =
    rw (← c.self.view_is) (idle_after _ c.in_err-read_into.ensures.served c.in_err-read_into.ensures.served.does.err)

pub returns-clause-made : goal.returns-clause-made
returns-clause-made g c =
    rw (← c.self.view_is, ← c.in_ok-key.ensures.ok)
    (made_after _ _ c.in_ok-read_into.ensures.served c.in_ok-read_into.ensures.served.does.served)
