-- The hands so far may make enough.
use Rattle.std.proofs.Common.{◌≡◌, ℕ, ◌<◌, ◌≤◌, Some}
use Rattle.std.specs.List.{slice_get}
use Rattle.lh_file.specs.Words.HandState.{HandState}
use Rattle.lh_shards.proofs.dividing.first_short.Given as goal

abbrev pub invariant-loop-shard : goal.invariant-loop-shard
invariant-loop-shard l =
    (k : ℕ) (hand : HandState) → k < l.shard → slice_get l.hands k ≡ Some hand → l.calls ≤ hand.view.left
