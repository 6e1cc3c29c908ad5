-- The hands so far may make so many, and not all of them more.
use Rattle.std.proofs.Common.{◌≡◌, ℕ, ◌^◌, ◌<◌, ◌≤◌, Some}
use Rattle.std.specs.List.{slice_get}
use Rattle.lh_file.specs.Words.HandState.{HandState}
use Rattle.lh_shards.specs.Dividing.{AllHave}
use Rattle.lh_shards.proofs.hands.Hands.left.Given as goal

abbrev pub invariant-loop-shard : goal.invariant-loop-shard
invariant-loop-shard l = record {
  all : (k : ℕ) (hand : HandState) → k < l.shard → slice_get l.self k ≡ Some hand → l.least ≤ hand.view.left;
  most : (calls : ℕ) → calls < 2 ^ 64 → AllHave calls l.self → calls ≤ l.least;
}
