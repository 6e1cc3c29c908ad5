-- The scan goes on.
use Rattle.lh_file.specs.Snapshots.Scans.{ahead}
use Rattle.lh_shards.specs.Hands.{AreOf}
use Rattle.lh_shards.specs.Snapshots.{IsScanOf}
use Rattle.lh_shard_store.proofs.all_shards.give_shard.Given as goal

abbrev pub invariant-loop-scan : goal.invariant-loop-scan
invariant-loop-scan g l = record {
  callable : goal.F-IsAlwaysCallable g l.f;
  scan : IsScanOf l.shards l.scan;
  of : AreOf l.shards l.hands;
}

abbrev pub decreases-loop-scan : goal.decreases-loop-scan
decreases-loop-scan g l = ahead l.scan.scan
