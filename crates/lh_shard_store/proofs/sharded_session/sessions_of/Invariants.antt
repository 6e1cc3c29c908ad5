-- There is room for a session of each hand that is left.
use Rattle.std.proofs.Common.{◌≡◌, ◌+◌, ◌≤◌, All, length, vec_len, vec_capacity}
use Rattle.std.specs.Vec.Iter.{into_iter_items}
use Rattle.lh_shards.specs.Hands.{AreOf}
use Rattle.lh_shard_store.proofs.sharded_session.sessions_of.Given as goal

abbrev pub invariant-loop-own : goal.invariant-loop-own
invariant-loop-own g l = record {
  each : All (λ hands. AreOf l.shards hands) (into_iter_items l.own-iterator);
  room : vec_len l.sessions + length (into_iter_items l.own-iterator) ≤ vec_capacity l.sessions;
  count : vec_len l.sessions + length (into_iter_items l.own-iterator)
      ≡ length (into_iter_items l.initial.own-iterator);
}
