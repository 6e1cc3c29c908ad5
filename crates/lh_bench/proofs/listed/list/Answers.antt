use Rattle.std.proofs.Common.{◌≡◌, ◌∷◌, All, length, ap, subst, rules, arith}
use Rattle.std.proofs.lemmas.List.Elements.{All-tail}
use Rattle.std.specs.Vec.Iter.{into_iter_items}
use Rattle.lh_settling.specs.ClosedFile.{IsWhole}
use Rattle.lh_bench.proofs.listed.list.Goals as goal

pub loop-snapshot-preserved : goal.loop-snapshot-preserved
loop-snapshot-preserved g c =
    let e : into_iter_items c.loop-snapshot.snapshot-iterator
    ≡ c.in-Some.snapshot ∷ into_iter_items c.next.new.self =
    search rules in record {
      many = search (rules, ap length e, c.loop-snapshot.invariant.many);
      whole =
          All-tail IsWhole c.in-Some.snapshot (into_iter_items c.next.new.self)
          (subst (All IsWhole) e c.loop-snapshot.invariant.whole);
    }
