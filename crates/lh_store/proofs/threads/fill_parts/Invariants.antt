-- There is room for each session that is left.
use Rattle.std.proofs.Common.{◌≡◌, ◌+◌, ◌≤◌, length, vec_len, vec_capacity}
use Rattle.std.specs.Vec.Iter.{into_iter_items}
use Rattle.lh_store.proofs.threads.fill_parts.Given as goal

abbrev pub invariant-loop-session : goal.invariant-loop-session
invariant-loop-session g l = record {
  room : vec_len l.parts + length (into_iter_items l.session-iterator) ≤ vec_capacity l.parts;
  count : length l.parts.items + length (into_iter_items l.session-iterator)
      ≡ length l.initial.parts.items + length (into_iter_items l.initial.session-iterator);
}
