-- The hands so far have given their calls, and the others are as they were.
use Rattle.std.proofs.Common.{suc, ◌≡◌, ℕ, ◌≤◌, Some, length}
use Rattle.std.specs.List.{slice_get}
use Rattle.std.specs.Vec.{vec_len, vec_capacity}
use Rattle.lh_file.specs.Words.HandState.{HandState, IsBranch}
use Rattle.lh_shards.specs.Dividing.{HasGiven}
use Rattle.lh_shards.proofs.shards.SizedShards.divided.Given as goal

abbrev pub invariant-loop-shard : goal.invariant-loop-shard
invariant-loop-shard g l = record {
  so_far : length l.given.items ≡ l.shard;
  len : vec_len l.given ≡ l.shard;
  room : length l.fn.hands ≤ vec_capacity l.given;
  count : length l.hands-inside.hands.items ≡ length l.fn.hands;
  given : (k : ℕ) (old new : HandState) → slice_get l.fn.hands k ≡ Some old → slice_get l.given.items k ≡ Some new →
      IsBranch l.calls old new;
  kept : (k : ℕ) (old new : HandState) → suc k ≤ l.shard → slice_get l.fn.hands k ≡ Some old →
      slice_get l.hands-inside.hands.items k ≡ Some new → HasGiven l.calls old new;
  rest : (k : ℕ) → l.shard ≤ k → slice_get l.hands-inside.hands.items k ≡ slice_get l.fn.hands k;
}
