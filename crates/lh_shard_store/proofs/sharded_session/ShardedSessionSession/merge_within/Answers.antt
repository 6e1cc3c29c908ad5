use Rattle.lh_shard_store.proofs.ShardCalls.{idle_itself, idle_after, at_once_after}
use Rattle.lh_shard_store.proofs.sharded_session.ShardedSessionSession.merge_within.Goals as goal

pub returns-in_err-key-clause-err : goal.returns-in_err-key-clause-err
returns-in_err-key-clause-err g c = idle_itself _ _

pub returns-in_err-first-clause-err : goal.returns-in_err-first-clause-err
returns-in_err-first-clause-err g c = idle_itself _ _

pub returns-in_err-merge-clause-err : goal.returns-in_err-merge-clause-err
returns-in_err-merge-clause-err g c =
    rw (← c.self.view_is) (idle_after _ c.in_err-merge.ensures.at_once c.in_err-merge.ensures.at_once.does.made.err)

pub returns-clause-made : goal.returns-clause-made
returns-clause-made g c =
    rw (← c.self.view_is, ← c.in_ok-key.ensures.ok, ← c.in_ok-first.ensures.ok)
    (at_once_after _ _ _ c.in_ok-merge.ensures.at_once)
