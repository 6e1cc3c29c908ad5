-- Acts that have each stamp once, in the order of their stamps, have the numbers from 0 on
use Rattle.std.proofs.Common.{◌≡◌, ◌≢◌, ℕ, zero, suc, ◌+◌, ◌<◌, ◌≤◌, List, [], ◌∷◌, map, length, get_or, cond, nat_eq}
use Rattle.std.proofs.Common.{ne_eqb, refl, sym, ap, ◌∙◌, arith}
use Rattle.std.specs.Prelude.{sum_by}
use Rattle.std.specs.List.{slice_get, range_with_len}
use Rattle.std.specs.List.Sorted.{IsNonDecreasingBy}
use Rattle.std.proofs.lemmas.List.Sums.{sum_by-cons}
use Rattle.std.proofs.lemmas.List.Sorted.{sum_by-IsPermutation}
use mathlib.Core.Logic.{dite}
use native.Mathlib.Decide.{dec_le}
use Rattle.lh_bucket.specs.declared.call.Call.TheVariants.{Search}
use Rattle.lh_bucket.specs.declared.call.Reply.TheVariants.{Absent}
use Rattle.lh_settling.specs.Acts.{stamps_of, IsInOrder}
use Rattle.lh_settling.specs.declared.act.ActLine.{ActLine}
use Rattle.lh_file.specs.Closing.{NoneMissingLaw}
use Rattle.lh_words.specs.Sums.{times, once_below}
use Rattle.lh_words.specs.SumLaws.{times-cons, once-yes, once-no, once-more, same-yes}

-- what is read past the last act
abbrev pub no_act : ActLine
no_act = record { stamp = 0; call = Search []; reply = Absent }

module _ {X : Type 0} (g : X → ℕ) where
  tail : (x : X) (xs : List X) → IsNonDecreasingBy g (x ∷ xs) → IsNonDecreasingBy g xs
  tail x xs h i j d upto below = h (suc i) (suc j) d (omega arith) (omega arith)

  -- how often a number stands in a list, by what the list is made of
  pub times-map : (x : ℕ) (xs : List X) → times x (map g xs) ≡ sum_by (λ y. cond (nat_eq x (g y)) 1 0) xs
  times-map x [] = refl
  times-map x (y ∷ ys) =
      omega (arith, times-cons x (g y) (map g ys), sum_by-cons (λ z. cond (nat_eq x (g z)) 1 0) y ys, times-map x ys)

  once_here : (y : X) (ys : List X) → 1 ≤ times (g y) (map g (y ∷ ys))
  once_here y ys =
      omega (arith, times-cons (g y) (g y) (map g ys), times-cons (g y) (g y) [], same-yes (g y) (g y) refl)

  none_above : (s : ℕ) (xs : List X) → ((k : ℕ) (d : X) → k < length xs → s < g (get_or xs k d)) →
      times s (map g xs) ≡ 0
  none_above s [] h = refl
  none_above s (x ∷ xs) h =
      let ne : s ≢ g x = λ e. omega (arith, e, h 0 x (omega arith)) in
      let first : ◌≡◌ {A = ℕ} (cond (nat_eq s (g x)) 1 0) 0 = ap (λ b. cond b 1 0) (ne_eqb s (g x) ne) in
      omega (arith, first, times-cons s (g x) (map g xs), none_above s xs (λ k d below. h (suc k) d (omega arith)))

  -- what rises and has each number from s to s + n once is these numbers
  rising_once : (xs : List X) (s n : ℕ) → IsNonDecreasingBy g xs →
      ((x : ℕ) → times x (map g xs) + once_below x s ≡ once_below x (s + n)) → map g xs ≡ range_with_len s n
  rising_once [] s zero r h = refl
  rising_once [] s (suc m) r h =
      absurd (omega (arith, h s, once-no s s (omega arith), once-yes s (s + suc m) (omega arith)))
  rising_once (y ∷ ys) s zero r h = dite (dec_le s (g y))
      (λ le. absurd (omega (arith, h (g y), once_here y ys, once-no (g y) (s + 0) (omega arith))))
      (λ lt.
      absurd (omega (
        arith,
        h (g y),
        once_here y ys,
        once-yes (g y) s (omega arith),
        once-yes (g y) (s + 0) (omega arith),
      )))
  rising_once (y ∷ ys) s (suc m) r h =
      let up : s ≤ g y = dite (dec_le s (g y)) (λ le. le)
      (λ lt.
      absurd (omega (
        arith,
        h (g y),
        once_here y ys,
        once-yes (g y) s (omega arith),
        once-yes (g y) (s + suc m) (omega arith),
      ))) in
      let down : g y ≤ s = dite (dec_le (g y) s) (λ le. le)
      (λ lt.
      absurd (omega (
        arith,
        h s,
        once-no s s (omega arith),
        once-yes s (s + suc m) (omega arith),
        none_above s (y ∷ ys) (λ k d below. omega (arith, r 0 k d (omega arith) below)),
      ))) in
      let same : g y ≡ s = omega arith in
      let rest = rising_once ys (s + 1) m (tail y ys r)
      (λ x.
      omega (
        arith,
        h x,
        times-cons x (g y) (map g ys),
        times-cons x (g y) [],
        ap (λ z. times x (z ∷ [])) same,
        once-more x s,
        ap (once_below x) (let e : s + suc m ≡ (s + 1) + m = omega arith in e),
      )) in
      λ i. same i ∷ rest i

-- acts that have each stamp below a number once, and no other, have these numbers in their order
pub all_drawn : (acts history : List ActLine) (q : ℕ) → IsInOrder acts history →
    ((x : ℕ) → times x (stamps_of acts) ≡ once_below x q) → stamps_of history ≡ range_with_len 0 q
all_drawn acts history q order once =
    let counted : (x : ℕ) → times x (stamps_of history) ≡ once_below x q = λ x.
    times-map (λ (a : ActLine). a.stamp) x history
    ∙ sum_by-IsPermutation (λ (a : ActLine). cond (nat_eq x a.stamp) 1 0) acts history order.same
    ∙ sym (times-map (λ (a : ActLine). a.stamp) x acts)
    ∙ once x in
    rising_once (λ (a : ActLine). a.stamp) history 0 q order.rising
    (λ x. omega (arith, counted x, once-no x 0 (omega arith), ap (once_below x) (let e : 0 + q ≡ q = omega arith in e)))

-- where the stamps drawn are as many as the acts kept, none is missing
pub none_missing_law : NoneMissingLaw
none_missing_law hand closed stamp recording all lost missing =
    missing.differ.here
    (ap (λ (l : List ℕ). slice_get l stamp)
    (all_drawn hand.acts missing.history closed.stamps missing.order (lost recording all)))
