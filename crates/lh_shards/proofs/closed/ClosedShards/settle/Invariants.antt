-- The shards so far are settled.
use Rattle.std.proofs.Common.{◌≡◌, ◌≤◌, length}
use Rattle.std.specs.Vec.{vec_len, vec_capacity}
use Rattle.lh_shards.proofs.Places.{EachThree}
use Rattle.lh_shards.proofs.Settled.{SettledAs}
use Rattle.lh_shards.proofs.closed.ClosedShards.settle.Given as goal

abbrev pub invariant-loop-shard : goal.invariant-loop-shard
invariant-loop-shard l = record {
  many : length l.histories.items ≡ l.shard;
  len : vec_len l.histories ≡ l.shard;
  room : l.count ≤ vec_capacity l.histories;
  each : EachThree SettledAs l.openings l.self l.histories.items;
}
