use Rattle.lh_shards.specs.Hands.{AreOf}
use Rattle.lh_shard_store.proofs.all_shards.give_all.Given as goal

abbrev pub invariant-loop-shard : goal.invariant-loop-shard
invariant-loop-shard g l = record { callable : goal.F-IsAlwaysCallable g l.f; of : AreOf l.shards l.hands }
