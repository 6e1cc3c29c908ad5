-- The files so far have answered, and their numbers are added.
use Rattle.std.proofs.Common.{◌≡◌, ℕ, ◌*◌, ◌^◌, ◌≤◌, List}
use Rattle.std.specs.Prelude.{sum}
use Rattle.lh_file.specs.Words.Calls.{IsBuckets}
use Rattle.lh_shards.proofs.Counting.{SoFar}
use Rattle.lh_shards.proofs.shards.SizedShards.buckets.Given as goal

abbrev pub invariant-loop-shard : goal.invariant-loop-shard
invariant-loop-shard g l = record {
  terms : List ℕ;
  so_far : SoFar IsBuckets l.self l.fn.hands l.shard terms l.hands-inside.hands.items;
  total : l.total ≡ sum terms;
  few : l.total ≤ l.shard * 2 ^ 32;
}
