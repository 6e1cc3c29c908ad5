-- There is a whole snapshot of each shard so far.
use Rattle.std.proofs.Common.{◌≡◌, All, length}
use Rattle.lh_settling.specs.ClosedFile.{IsWhole}
use Rattle.lh_shards.specs.Hands.{AreOf}
use Rattle.lh_bench.proofs.on_shards.snapshots_of.Given as goal

abbrev pub invariant-loop-shard : goal.invariant-loop-shard
invariant-loop-shard g l = record {
  of : AreOf l.shards l.hands;
  many : length l.taken.items ≡ l.shard;
  whole : All IsWhole l.taken.items;
}
