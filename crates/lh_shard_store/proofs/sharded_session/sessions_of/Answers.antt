use Rattle.std.proofs.Common.{◌≡◌, ◌∷◌, All, ap, length, subst, rules, arith}
use Rattle.std.specs.Vec.Iter.{into_iter_items}
use Rattle.std.proofs.lemmas.List.Elements.{All-tail}
use Rattle.lh_shards.specs.Hands.{AreOf}
use Rattle.lh_shard_store.proofs.sharded_session.sessions_of.Goals as goal

pub loop-own-preserved : goal.loop-own-preserved
loop-own-preserved g c =
    let rest = into_iter_items c.next.new.self in
    let e : into_iter_items c.loop-own.own-iterator ≡ c.in-Some.own ∷ rest = search rules in
    let P = AreOf c.args.shards.now in record {
      each = All-tail P c.in-Some.own rest (subst (All P) e c.loop-own.invariant.each);
      room =
          omega (
            arith,
            ap length e,
            c.push_reserved.ensures.len,
            c.push_reserved.ensures.capacity,
            c.loop-own.invariant.room,
          );
      count = omega (arith, ap length e, c.push_reserved.ensures.len, c.loop-own.invariant.count);
    }
