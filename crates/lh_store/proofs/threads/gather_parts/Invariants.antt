-- What came of each part that is left has its place.
use Rattle.std.proofs.Common.{◌≡◌, ◌+◌, ◌≤◌, All, IfNone, length, vec_len, vec_capacity}
use Rattle.std.specs.Vec.Iter.{into_iter_items}
use Rattle.lh_store.proofs.threads.gather_parts.Given as goal

abbrev pub invariant-loop-part : goal.invariant-loop-part
invariant-loop-part g l = record {
  done : All (λ part. IfNone part.done ⊥) (into_iter_items l.part-iterator);
  room : vec_len l.all_done + length (into_iter_items l.part-iterator) ≤ vec_capacity l.all_done;
  count : vec_len l.all_done + length (into_iter_items l.part-iterator)
      ≡ vec_len l.initial.all_done + length (into_iter_items l.initial.part-iterator);
}
