use Rattle.std.proofs.Common.{◌≡◌, ◌↔◌, ◌+◌, ◌-◌, ◌<◌, drop, get_or, refl, sym, subst, ◌∙◌, inl, inr, arith}
use Rattle.std.specs.Int.{bit_at}
use Rattle.std.proofs.lemmas.Bool.{cases_lt}
use Rattle.std.proofs.lemmas.List.{get_or-take, get_or-drop}
use Rattle.lh_image.proofs.marks.places_of.Goals as goal

pub returns : goal.returns
returns c i low =
    let marks = c.args.marks.now in
    elim (cases_lt i 16) [
      | inl front ↦
          subst (λ x. (x ≡ 1) ↔ (get_or marks i 0 ≡ c.args.mark)) (sym (c.beside.ensures.front i front))
          (subst (λ x. (bit_at c.places_16-front.result i ≡ 1) ↔ (x ≡ c.args.mark)) (get_or-take 16 marks i 0 front)
          (c.places_16-front.ensures.places i front))
      | inr back ↦
          let below : i - 16 < 8 = omega arith in
          let place : 16 + (i - 16) ≡ i = omega arith in
          subst (λ x. (x ≡ 1) ↔ (get_or marks i 0 ≡ c.args.mark)) (sym (c.beside.ensures.back i back))
          (subst (λ x. (bit_at c.places_8-back.result (i - 16) ≡ 1) ↔ (x ≡ c.args.mark))
          (get_or-take 8 (drop 16 marks) (i - 16) 0 below ∙ get_or-drop 16 marks (i - 16) 0
          ∙ subst (λ k. get_or marks (16 + (i - 16)) 0 ≡ get_or marks k 0) place refl)
          (c.places_8-back.ensures.places (i - 16) below))
    ]
