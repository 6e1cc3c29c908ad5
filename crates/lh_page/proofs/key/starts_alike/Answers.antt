use Rattle.std.proofs.Common.{◌≡◌, ◌≢◌, ℕ, ◌+◌, ◌-◌, ◌<◌, ◌≤◌, List, leb, take, drop, get_or, sym, ap, ◌∙◌, inl, inr}
use Rattle.std.proofs.Common.{length, arith}
use Rattle.std.specs.Prelude.{slice_index}
use Rattle.std.proofs.lemmas.Bool.{OnTrue_from, OnFalse_from, leb-true, leb-false, cases_lt}
use Rattle.std.proofs.lemmas.List.{get_or-take, get_or-drop}
use Rattle.lh_page.proofs.key.starts_alike.Goals as goal

-- a byte of a part that begins at or before it
get_or-rest : (n from i : ℕ) (xs : List ℕ) → from ≤ i → i - from < n →
    get_or (take n (drop from xs)) (i - from) 0 ≡ get_or xs i 0
get_or-rest n from i xs behind low =
    let place : from + (i - from) ≡ i = omega arith in
    get_or-take n (drop from xs) (i - from) 0 low ∙ (get_or-drop from xs (i - from) 0 ∙ ap (λ k. get_or xs k 0) place)

pub returns-clause-same : goal.returns-clause-same
returns-clause-same c =
    let a = c.args.a.now in
    let b = c.args.b.now in
    let n = c.args.len in
    let r = c.common_front.result in
    let s = c.min-rest.result - 32 in
    OnTrue_from (leb n (s + r)) ((i : ℕ) → i < n → slice_index a i ≡ slice_index b i)
    (λ passed i below. elim (cases_lt i 32) [
      | inl near ↦ c.common_front-front.ensures.same i (omega arith)
      | inr far ↦
          let low : i - s < r = omega (arith, leb-true n (s + r) passed, c.min-rest.ensures) in
          sym (get_or-rest (56 - s) s i a (omega (arith, c.min-rest.ensures)) (omega arith))
          ∙ (c.common_front.ensures.same (i - s) low
          ∙ get_or-rest (length b - s) s i b (omega (arith, c.min-rest.ensures)) (omega arith))
    ])

pub returns-clause-other : goal.returns-clause-other
returns-clause-other c =
    let a = c.args.a.now in
    let b = c.args.b.now in
    let n = c.args.len in
    let r = c.common_front.result in
    let s = c.min-rest.result - 32 in
    OnFalse_from (leb n (s + r)) ((i : ℕ) × (i < n) × (slice_index a i ≢ slice_index b i)) (λ failed.
    let short : s + r < n = leb-false n (s + r) failed in
    let place : s + r - s ≡ r = omega arith in
    let at : s ≤ s + r = omega arith in (
      s + r,
      short,
      λ same. c.common_front.ensures.differ (omega (arith, c.min-rest.ensures))
          (ap (λ k. get_or (take (56 - s) (drop s a)) k 0) (sym place)
          ∙ (get_or-rest (56 - s) s (s + r) a at (omega arith) ∙ (same
          ∙ (sym (get_or-rest (length b - s) s (s + r) b at (omega arith))
          ∙ ap (λ k. get_or (take (length b - s) (drop s b)) k 0) place)))),
    ))
