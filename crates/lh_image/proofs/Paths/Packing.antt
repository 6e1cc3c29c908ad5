-- Pages without a fault of `used` have packed chains, and packed chains have none.
use Rattle.std.proofs.Common.{◌≡◌, ◌≢◌, ℕ, ◌<◌, ◌≤◌, inl, inr, true, false, not, ◌||◌, ◌&&◌, eqb, ltb, List, [], ◌∷◌}
use Rattle.std.proofs.Common.{length, map, sym, ◌∙◌, ◌↔◌, arith}
use Rattle.std.specs.List.{list_any}
use Rattle.std.proofs.lemmas.Bool.{eqb-true, or_cases, false≢true}
use Rattle.std.proofs.lemmas.Bool.Decides.{nat_tests}
use Rattle.lh_image.specs.Chains.{stands_in, IsPath, IsLinked}
use Rattle.lh_page.specs.declared.pair.Pair.{Pair}
use Rattle.lh_page.specs.PackedList.{IsPacked}

-- over plain numbers: u is a page's used, x its next, k its kind
pub used_rule : (b u x k : ℕ) →
    (ltb b u || (not (eqb x 0) && ltb u b) || (eqb k 2 && eqb u 0) ≡ false) ↔
    ((u ≤ b) × (x ≢ 0 → u ≡ b) × (k ≡ 2 → 1 ≤ u))
used_rule b u x k = (
  λ e.
      (grind (arith, nat_tests), λ m. grind (arith, nat_tests), λ m. grind (arith, nat_tests)),
  λ f. grind (arith, nat_tests),
)

-- what holds of the number of records of a page: S is the number of heads
pub record IsFilled (next len : ℕ → ℕ) (b S p : ℕ) : Type 0 where
  pub most : len p ≤ b
  pub full : next p ≢ 0 → len p ≡ b
  pub some : S < p → 1 ≤ len p

module _ (next bucket : ℕ → ℕ) (S P b : ℕ) (rec : ℕ → List Pair) (linked : IsLinked next bucket S P) where
  -- where each page's number of records is as it has to be, the records along a path are packed
  pub packed : (xs : List ℕ) (p : ℕ) → 1 ≤ p → p < P → IsPath next p xs →
      ((q : ℕ) → 1 ≤ q → q < P → IsFilled next (λ r. length (rec r)) b S q) → IsPacked b (map rec xs)
  packed [] p low high path filled = absurd (omega arith)
  packed (x ∷ []) p low high path filled = let f = filled p low high in rw path.0 f.most
  packed (x ∷ y ∷ ys) p low high path filled =
      let f = filled p low high in
      let more : next p ≢ 0 = λ e. omega (arith, path.2.1) in
      let high2 : next p < P = linked.within p low high more in
      let rest = packed (y ∷ ys) (next p) path.2.1 high2 path.2 filled in
      let g = filled (next p) path.2.1 high2 in
      (rw path.0 (f.full more), rw path.2.0 (g.some (linked.no_head p low high more)), rest)

  -- each page of a packed path, where a page that isn't a head isn't the first
  pub filled : (xs : List ℕ) (p : ℕ) → 1 ≤ p → p < P → IsPath next p xs → IsPacked b (map rec xs) →
      (S < p → 1 ≤ length (rec p)) → (q : ℕ) → stands_in xs q ≡ true → IsFilled next (λ r. length (rec r)) b S q
  unfolding stands_in
  filled [] p low high path full first q here = absurd (false≢true here)
  filled (x ∷ []) p low high path full first q here = elim (or_cases (eqb x q) false here) [
    | inl same ↦
        let e : p ≡ q = sym path.0 ∙ eqb-true x q same in
        rw (← e) (record { most = rw (← path.0) full; full = λ more. absurd (more path.2); some = first })
    | inr other ↦ absurd (false≢true other)
  ]
  filled (x ∷ y ∷ ys) p low high path full first q here =
      let more : next p ≢ 0 = λ e. omega (arith, path.2.1) in
      elim (or_cases (eqb x q) (list_any (λ r. eqb r q) (y ∷ ys)) here) [
        | inl same ↦
            let e : p ≡ q = sym path.0 ∙ eqb-true x q same in
            let l : length (rec p) ≡ b = rw (← path.0) full.0 in
            rw (← e) (record { most = omega arith; full = λ _. l; some = first })
        | inr later ↦
            filled (y ∷ ys) (next p) path.2.1 (linked.within p low high more) path.2 full.2
            (λ _. rw (← path.2.0) full.1) q later
      ]
