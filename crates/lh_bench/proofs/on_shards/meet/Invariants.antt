-- The scan stays one of its shard, and the hands stay those of the shards.
use Rattle.lh_shards.specs.Hands.{AreOf}
use Rattle.lh_shards.specs.Snapshots.{IsScanOf}
use Rattle.lh_bench.proofs.on_shards.meet.Given as goal

abbrev pub invariant-loop : goal.invariant-loop
invariant-loop g l = AreOf l.shards l.hands × IsScanOf l.shards l.scan
