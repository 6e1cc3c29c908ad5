use Rattle.std.proofs.Common.{◌≡◌, ◌∷◌, All, ap, length, subst, rules, arith}
use Rattle.std.specs.Vec.Iter.{into_iter_items}
use Rattle.std.proofs.lemmas.List.Elements.{All-tail}
use Rattle.lh_store.specs.Sessions.{IsSession}
use Rattle.lh_store.proofs.file_session.SizedSession.beside.Goals as goal

pub loop-hand-preserved : goal.loop-hand-preserved
loop-hand-preserved g c =
    let rest = into_iter_items c.next.new.self in
    let e : into_iter_items c.loop-hand.hand-iterator ≡ c.in-Some.hand ∷ rest = search rules in
    let P =
    IsSession g.M.Mode.traced g.B.SessionName.is_named g.B.SessionName.state
    c.args.self.now.file in record {
      each = All-tail P c.in-Some.hand rest (subst (All P) e c.loop-hand.invariant.each);
      room =
          omega (
            arith,
            ap length e,
            c.push_reserved.ensures.len,
            c.push_reserved.ensures.capacity,
            c.loop-hand.invariant.room,
          );
      count = omega (arith, ap length e, c.push_reserved.ensures.len, c.loop-hand.invariant.count);
    }
