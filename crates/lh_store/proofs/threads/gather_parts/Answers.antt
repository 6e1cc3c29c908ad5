use Rattle.std.proofs.Common.{◌≡◌, ◌∷◌, All, IfNone, ap, length, subst, rules, arith}
use Rattle.std.specs.Vec.Iter.{into_iter_items}
use Rattle.std.proofs.lemmas.List.Elements.{All-tail}
use Rattle.lh_store.specs.declared.threads.ThreadPart.{ThreadPart}
use Rattle.lh_store.proofs.threads.gather_parts.Goals as goal

pub loop-part-preserved : goal.loop-part-preserved
loop-part-preserved g c =
    let rest = into_iter_items c.next.new.self in
    let e : into_iter_items c.loop-part.part-iterator ≡ c.in-Some.part ∷ rest = search rules in
    let P = λ (part : ThreadPart g.row.S.Denot g.row.T.Denot). IfNone part.done ⊥ in record {
      done = All-tail P c.in-Some.part rest (subst (All P) e c.loop-part.invariant.done);
      room =
          omega (
            arith,
            ap length e,
            c.push_reserved.ensures.len,
            c.push_reserved.ensures.capacity,
            c.loop-part.invariant.room,
          );
      count = omega (arith, ap length e, c.push_reserved.ensures.len, c.loop-part.invariant.count);
    }
