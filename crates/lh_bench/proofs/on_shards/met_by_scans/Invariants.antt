-- The hands stay those of the shards.
use Rattle.lh_shards.specs.Hands.{AreOf}
use Rattle.lh_bench.proofs.on_shards.met_by_scans.Given as goal

abbrev pub invariant-loop-shard : goal.invariant-loop-shard
invariant-loop-shard g l = AreOf l.shards l.hands
