-- The tables of the listings so far are made.
use Rattle.std.proofs.Common.{◌≡◌, length}
use Rattle.lh_shards.proofs.Beginning.{BegunFrom}
use Rattle.lh_shards.proofs.openings.Openings.begun.Given as goal

abbrev pub invariant-loop-shard : goal.invariant-loop-shard
invariant-loop-shard l = record {
  many : length l.openings.items ≡ l.shard;
  each : BegunFrom l.listings l.recording l.openings.items;
}
