-- Acts have an order
use Rattle.std.proofs.Common.{ℕ, zero, suc, ◌<◌, ◌≤◌, ⊎_elim, List, [], ◌∷◌, length, get_or, arith}
use Rattle.std.specs.List.{All}
use Rattle.std.specs.List.Sorted.{IsPermutation, IsNonDecreasingBy}
use Rattle.std.proofs.lemmas.Bool.{cases_lt}
use Rattle.std.proofs.lemmas.List.Sorted.{IsPermutation-refl, IsPermutation-sym, IsPermutation-trans}
use Rattle.std.proofs.lemmas.List.Sorted.{IsPermutation-cons, IsPermutation-middle, All-permutation}
use Rattle.lh_settling.specs.declared.act.ActLine.{ActLine}
use Rattle.lh_settling.specs.Acts.{IsInOrder}
use Rattle.lh_settling.proofs.Verdicts.{tail, head}

abbrev Rises : List ActLine → Type 0
Rises acts = IsNonDecreasingBy (λ (a : ActLine). a.stamp) acts

cons_rises : (x : ActLine) (xs : List ActLine)
    → ((k : ℕ) (d : ActLine) → k < length xs → x.stamp ≤ (get_or xs k d).stamp) → Rises xs → Rises (x ∷ xs)
cons_rises x xs first rest zero zero d u b = omega arith
cons_rises x xs first rest zero (suc j) d u b = first j d (omega arith)
cons_rises x xs first rest (suc i) zero d u b = absurd (omega arith)
cons_rises x xs first rest (suc i) (suc j) d u b = rest i j d (omega arith) (omega arith)

put_in : (a : ActLine) (xs : List ActLine) → Rises xs → (ys : List ActLine) × IsPermutation (a ∷ xs) ys × Rises ys
put_in a [] r = (a ∷ [], IsPermutation-refl (a ∷ []), cons_rises a [] (λ k d b. absurd (omega arith)) r)
put_in a (x ∷ xs) r = ⊎_elim
    (λ (low : a.stamp < x.stamp). (
      a ∷ x ∷ xs,
      IsPermutation-refl (a ∷ x ∷ xs),
      cons_rises a (x ∷ xs) (λ k d b. omega (arith, low, r 0 k d (omega arith) b)) r,
    ))
    (λ (high : x.stamp ≤ a.stamp).
    let rest = put_in a xs (tail (λ (a : ActLine). a.stamp) x xs r) in
    let above : All (λ (b : ActLine). x.stamp ≤ b.stamp) (a ∷ xs) = least high in (
      x ∷ rest.0,
      IsPermutation-trans (a ∷ x ∷ xs) (x ∷ a ∷ xs) (x ∷ rest.0)
          (IsPermutation-sym (x ∷ a ∷ xs) (a ∷ x ∷ xs) (IsPermutation-middle (x ∷ []) a xs))
          (IsPermutation-cons x (a ∷ xs) rest.0 rest.1),
      cons_rises x rest.0 (All-permutation (λ (b : ActLine). x.stamp ≤ b.stamp) (a ∷ xs) rest.0 rest.1 above) rest.2,
    ))
    (cases_lt a.stamp x.stamp)
  where
    least : x.stamp ≤ a.stamp → (k : ℕ) (d : ActLine) → k < length (a ∷ xs) → x.stamp ≤ (get_or (a ∷ xs) k d).stamp
    least high zero d b = high
    least high (suc k) d b = head (λ (a : ActLine). a.stamp) x xs r k d (omega arith)

-- acts can be put in the order of their stamps
pub order_of : (acts : List ActLine) → (history : List ActLine) × IsInOrder acts history
order_of [] = ([], record { same = IsPermutation-refl []; rising = λ i j d u b. absurd (omega arith) })
order_of (a ∷ acts) =
    let o = order_of acts in
    let p = put_in a o.0 o.1.rising in (
      p.0,
      record {
        same = IsPermutation-trans (a ∷ acts) (a ∷ o.0) p.0
            (IsPermutation-cons a acts o.0 o.1.same) p.1;
        rising = p.2;
      },
    )
