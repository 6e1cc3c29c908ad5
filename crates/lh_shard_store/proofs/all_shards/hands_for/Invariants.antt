-- There is room for the hands that are left.
use Rattle.std.proofs.Common.{◌≡◌, ◌≤◌, All, length, vec_capacity}
use Rattle.lh_shards.specs.Hands.{AreOf}
use Rattle.lh_shard_store.proofs.all_shards.hands_for.Given as goal

abbrev pub invariant-loop-caller : goal.invariant-loop-caller
invariant-loop-caller l = record {
  of : AreOf l.shards l.hands;
  given : All (λ own. AreOf l.shards own) l.given.items;
  count : length l.given.items ≡ l._caller;
  room : l.callers ≤ vec_capacity l.given;
}
