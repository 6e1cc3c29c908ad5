use Rattle.std.proofs.Common.{◌≡◌, ◌≢◌, ℕ, ◌<◌, List, length, get_or, set, sym, subst, inl, inr, arith}
use Rattle.std.proofs.lemmas.Bool.{cases_eq}
use Rattle.std.proofs.lemmas.Grind.{common_steps, get_or-set_at}
use Rattle.std.proofs.lemmas.List.{get_or-set_other}
use Rattle.lh_image.specs.Indexed.{IsStart}
use Rattle.lhf.specs.declared.handle.Ask.{Ask}
use Rattle.lhf.specs.Replies.{IsAskReply}
use Rattle.lhf.proofs.many.answer_all.Goals as goal

-- what holds of the one that is put in place, and of each other, holds of each
each_set : (P : Ask → Type 0) (asks : List Ask) (place i : ℕ) (ask d : Ask) → place < length asks →
    (i ≡ place → P ask) → (i ≢ place → P (get_or asks i d)) → P (get_or (set asks place ask) i d)
each_set P asks place i ask d low here there = elim (cases_eq i place) [
  | inl same ↦ subst P (sym (get_or-set_at asks place i ask d same low)) (here same)
  | inr other ↦ subst P (sym (get_or-set_other asks place i ask d other)) (there other)
]

pub loop-place-preserved : goal.loop-place-preserved
loop-place-preserved c =
    let asks = c.loop-place.asks in
    let place = c.loop-place.place in
    let inv = c.loop-place.invariant in
    let low : place < length asks = omega arith in
    record {
      keys = λ i small d. grind (arith, common_steps);
      left = λ i high d. grind (arith, common_steps);
      found = λ header root same checked started s image i small d.
          each_set (IsAskReply s) asks place i c.answer.new.ask d low
          (λ _.
          c.answer.ensures.found header root same checked
          (subst (λ (a : Ask). IsStart root a.key.bytes.now a.start) (sym (inv.left place (omega arith) _))
          (started place (omega arith) _)) s image)
          (λ other. inv.found header root same checked started s image i (omega arith) d);
    }

pub returns-clause-found : goal.returns-clause-found
returns-clause-found c header root same checked started s image i low d =
    let l : i < c.loop-place.place = omega arith in
    c.loop-place.invariant.found header root same checked started s image i l d
