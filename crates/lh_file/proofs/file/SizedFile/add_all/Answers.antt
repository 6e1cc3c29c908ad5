use Rattle.std.proofs.Common.{◌≡◌, ◌∷◌, All, length, sym, ap, subst, rules, arith}
use Rattle.std.specs.Prelude.{fold, sum_by}
use Rattle.std.specs.Vec.Iter.{into_iter_items}
use Rattle.std.proofs.lemmas.List.Elements.{All-tail}
use Rattle.std.proofs.lemmas.List.Sums.{sum_by-cons}
use Rattle.lh_file.specs.FileState.{MayBeJoined}
use Rattle.lh_file.specs.Words.HandState.{HandState, IsSame, united}
use Rattle.lh_file.proofs.OfWords.Joining.{of_joined, same_all, same_then}
use Rattle.lh_file.proofs.file.SizedFile.add_all.Goals as goal

pub loop-other-preserved : goal.loop-other-preserved
loop-other-preserved g c =
    let rest = into_iter_items c.next.new.self in
    let e : into_iter_items c.loop-other.other-iterator ≡ c.in-Some.other ∷ rest = search rules in
    let acts = λ (h : HandState). length h.acts in
    let before = fold united c.args.first (into_iter_items c.into_iter-other-iterator.result) in record {
      of =
          of_joined c.args.self.now.state c.loop-other.first c.in-Some.other c.add_hand.new.first
          c.loop-other.invariant.of c.add_hand.ensures.joined;
      others =
          All-tail (MayBeJoined c.args.self.now.state) c.in-Some.other rest
          (subst (All (MayBeJoined c.args.self.now.state)) e c.loop-other.invariant.others);
      room =
          omega (
            arith,
            ap (sum_by acts) e,
            sum_by-cons acts c.in-Some.other rest,
            c.add_hand.ensures.room,
            c.loop-other.invariant.room,
          );
      joined =
          same_then before (fold united c.loop-other.first (into_iter_items c.loop-other.other-iterator))
          (fold united c.add_hand.new.first rest) c.loop-other.invariant.joined
          (subst (λ l. IsSame (fold united c.loop-other.first l) (fold united c.add_hand.new.first rest)) (sym e)
          (same_all rest (united c.loop-other.first c.in-Some.other) c.add_hand.new.first
          c.add_hand.ensures.joined));
    }
