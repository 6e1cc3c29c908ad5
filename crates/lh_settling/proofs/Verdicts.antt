-- What settling can say of a file is one thing at most
use Rattle.std.proofs.Common.{◌≡◌, ℕ, suc, ◌<◌, ◌≤◌, cond, ⊎_elim, List, [], ◌∷◌, map, length, get_or, Option, Some}
use Rattle.std.proofs.Common.{None, refl, sym, ap, ◌∙◌, arith, zero-add}
use Rattle.std.specs.Prelude.{nat_lt}
use Rattle.std.specs.List.{slice_get, sum_by, range_with_len, Contains}
use Rattle.std.specs.List.Sorted.{IsNonDecreasingBy}
use Rattle.std.proofs.Math.ListN.{get_or-map}
use Rattle.std.proofs.lemmas.Bool.{cases_lt}
use Rattle.std.proofs.lemmas.Bool.Decides.{nat_tests}
use Rattle.std.proofs.lemmas.List.{length-map}
use Rattle.std.proofs.lemmas.List.FromFn.{length-range_with_len, get_or-range_with_len}
use Rattle.std.proofs.lemmas.List.Sums.{sum_by-cons}
use Rattle.std.proofs.lemmas.List.Sorted.{IsPermutation-sym, IsPermutation-trans, Contains-permutation}
use Rattle.std.proofs.lemmas.List.Sorted.{sum_by-IsPermutation}
use Rattle.std.proofs.lemmas.Option.{slice_get-get_or, slice_get_past, same_Some}
use Rattle.lh_settling.specs.declared.act.ActLine.{ActLine}
use Rattle.lh_settling.specs.Acts.{stamps_of, IsInOrder, FirstDiffer}
use Rattle.lh_settling.specs.Laws.{HistoryLaw}
use Rattle.lh_settling.proofs.Histories.{same_list}
use Rattle.lh_settling.proofs.Orders.{no_act}

module _ {X : Type 0} (g : X → ℕ) where
  -- a list that rises does so without its first item
  pub tail : (x : X) (xs : List X) → IsNonDecreasingBy g (x ∷ xs) → IsNonDecreasingBy g xs
  tail x xs h i j d upto below = h (suc i) (suc j) d (omega arith) (omega arith)

  -- in a list that rises no item has a lower number than the first
  pub head : (x : X) (xs : List X) → IsNonDecreasingBy g (x ∷ xs) → (k : ℕ) (d : X) → k < length xs
      → g x ≤ g (get_or xs k d)
  head x xs h k d below = h 0 (suc k) d (omega arith) (omega arith)

  abbrev Below : ℕ → X → ℕ
  Below n x = cond (nat_lt (g x) n) 1 0

  none_below : (n : ℕ) (xs : List X) → ((k : ℕ) (d : X) → k < length xs → n ≤ g (get_or xs k d))
      → sum_by (Below n) xs ≡ 0
  none_below n [] h = refl
  none_below n (x ∷ xs) h =
      let rest = none_below n xs (λ k d below. h (suc k) d (omega arith)) in
      let first : Below n x ≡ 0 = not_below (g x) n (h 0 x (omega arith)) in
      omega (arith, rest, first, sum_by-cons (Below n) x xs)
    where
      not_below : (m n : ℕ) → n ≤ m → ◌≡◌ {A = ℕ} (cond (nat_lt m n) 1 0) 0
      not_below m n h = grind (arith, nat_tests)

  from_below : (m n : ℕ) → ◌≡◌ {A = ℕ} (cond (nat_lt m n) 1 0) 0 → n ≤ m
  from_below m n h = grind (arith, nat_tests)

  -- lists that rise, and have as many of each number, have the same numbers
  same_rising : (xs ys : List X) → IsNonDecreasingBy g xs → IsNonDecreasingBy g ys
      → ((f : ℕ → ℕ) → sum_by (λ x. f (g x)) xs ≡ sum_by (λ x. f (g x)) ys) → map g xs ≡ map g ys
  same_rising [] [] r s h = refl
  same_rising [] (y ∷ ys) r s h = absurd (omega (arith, h (λ _. 1), sum_by-cons (λ (x : X). 1) y ys))
  same_rising (x ∷ xs) [] r s h = absurd (omega (arith, h (λ _. 1), sum_by-cons (λ (x : X). 1) x xs))
  same_rising (x ∷ xs) (y ∷ ys) r s h =
      let low : sum_by (Below (g y)) (y ∷ ys) ≡ 0 =
      none_below (g y) (y ∷ ys) (λ k d below. s 0 k d (omega arith) below) in
      let high : sum_by (Below (g x)) (x ∷ xs) ≡ 0 =
      none_below (g x) (x ∷ xs) (λ k d below. r 0 k d (omega arith) below) in
      let up : g y ≤ g x = from_below (g x) (g y)
      (omega (arith, low, h (λ n. cond (nat_lt n (g y)) 1 0), sum_by-cons (Below (g y)) x xs)) in
      let down : g x ≤ g y = from_below (g y) (g x)
      (omega (arith, high, h (λ n. cond (nat_lt n (g x)) 1 0), sum_by-cons (Below (g x)) y ys)) in
      let same : g x ≡ g y = omega arith in
      let rest = same_rising xs ys (tail x xs r) (tail y ys s)
      (λ f. omega (
        arith,
        h f,
        ap f same,
        sum_by-cons (λ (z : X). f (g z)) x xs,
        sum_by-cons (λ (z : X). f (g z)) y ys,
      )) in
      λ i. same i ∷ rest i

-- two orders of the same acts have the same stamps
pub same_stamps : (acts history other : List ActLine) → IsInOrder acts history → IsInOrder acts other
    → stamps_of history ≡ stamps_of other
same_stamps acts history other h o =
    same_rising (λ (a : ActLine). a.stamp) history other h.rising o.rising
    (λ f. sum_by-IsPermutation (λ (a : ActLine). f a.stamp) acts history h.same
    ∙ sym (sum_by-IsPermutation (λ (a : ActLine). f a.stamp) acts other o.same))

module _ (history : List ActLine) (q : ℕ) (stamps : stamps_of history ≡ range_with_len 0 q) where
  many : length history ≡ q
  many = sym (length-map history (λ (a : ActLine). a.stamp)) ∙ ap length stamps ∙ length-range_with_len 0 q

  stamp_is : (k : ℕ) (d : ActLine) → k < length history → (get_or history k d).stamp ≡ k
  stamp_is k d below =
      sym (get_or-map (λ (a : ActLine). a.stamp) history k d)
      ∙ ap (λ (xs : List ℕ). get_or xs k d.stamp) stamps
      ∙ get_or-range_with_len 0 q k d.stamp (omega (arith, many)) ∙ zero-add k

-- acts have one history at most
pub history_law : HistoryLaw
history_law closed acts history other h o = same_list history other (λ p. ⊎_elim
    (λ (below : p < length history). at p below (slice_get history p) refl)
    (λ (past : length history ≤ p).
    slice_get_past history p past ∙ sym
    (slice_get_past other p (omega (
      arith,
      many history closed.stamps h.stamps,
      many other closed.stamps o.stamps,
    ))))
    (cases_lt p (length history)))
  where
    at : (p : ℕ) → p < length history → (r : Option ActLine) → slice_get history p ≡ r
        → slice_get history p ≡ slice_get other p
    at p below (Some x) is =
        let here : get_or history p x ≡ x =
        same_Some (get_or history p x) x (sym (slice_get-get_or history p x below) ∙ is) in
        let there : Contains other x = Contains-permutation history other x
        (IsPermutation-trans history acts other (IsPermutation-sym acts history h.order.same) o.order.same)
        (p, below, here) in
        let place : there.0 ≡ p =
        sym (stamp_is other closed.stamps o.stamps there.0 x there.1)
        ∙ ap (λ (a : ActLine). a.stamp) (there.2 ∙ sym here) ∙ stamp_is history closed.stamps h.stamps p x below in
        is ∙ sym (ap (slice_get other) (sym place) ∙ slice_get-get_or other there.0 x there.1 ∙ ap Some there.2)
    at p below None is = absurd (no_none (get_or history p a0) (sym (slice_get-get_or history p a0 below) ∙ is))
      where
        a0 : ActLine
        a0 = no_act

        no_none : (x : ActLine) → Some x ≡ None → ⊥
        no_none x e = cc

-- the first place where lists differ is one
pub first_differ_one : {X : Type 0} (xs ys zs : List X) (s t : ℕ) → xs ≡ zs → FirstDiffer xs ys s → FirstDiffer zs ys t
    → s ≡ t
first_differ_one xs ys zs s t same f g = ⊎_elim
    (λ (below : s < t). absurd (f.here (ap (λ l. slice_get l s) same ∙ g.before s below)))
    (λ (past : t ≤ s). ⊎_elim
    (λ (below : t < s). absurd (g.here (sym (ap (λ l. slice_get l t) same) ∙ f.before t below)))
    (λ (back : s ≤ t). let e : s ≡ t = omega arith in e)
    (cases_lt t s))
    (cases_lt s t)

-- lists that are the same have no first place where they differ
pub differ_not_same : {X : Type 0} (xs ys zs : List X) (t : ℕ) → xs ≡ zs → zs ≡ ys → FirstDiffer xs ys t → ⊥
differ_not_same xs ys zs t same is f = f.here (ap (λ l. slice_get l t) (same ∙ is))
