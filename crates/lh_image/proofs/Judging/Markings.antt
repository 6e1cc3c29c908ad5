-- Marks of the pages of chains, after one page or one chain more
use Rattle.std.proofs.Common.{◌≡◌, ℕ, ◌+◌, ◌<◌, inl, inr, Bool, true, false, ◌||◌, eqb, List, [], length, get_or, set}
use Rattle.std.proofs.Common.{take, refl, sym, ap, ◌∙◌, arith}
use Rattle.std.proofs.lemmas.Bool.{cases_eq, eq-eqb, ne_eqb}
use Rattle.std.proofs.lemmas.List.{get_or-set_same, get_or-set_other}
use Rattle.std.proofs.lemmas.List.Folds.{list_any_more}
use Rattle.lh_image.specs.Chains.{stands_in}

or_none : (b : Bool) → b ≡ (b || false)
or_none true = refl
or_none false = refl

or_true : (b : Bool) → true ≡ (b || true)
or_true true = refl
or_true false = refl

last : (a b : Bool) → (b || true) ≡ (a || (b || true))
last true true = refl
last true false = refl
last false b = refl

-- with no page of the chain yet, each mark is as it was
pub mark_none : (b : Bool) (p : ℕ) → b ≡ (b || stands_in [] p)
unfolding stands_in
mark_none b p = or_none b

-- with one page more, a page stands in a list where it stood there before or is that page
pub stands_more : (xs : List ℕ) (i x p : ℕ) → i < length xs → get_or xs i 0 ≡ x →
    stands_in (take (i + 1) xs) p ≡ (stands_in (take i xs) p || eqb x p)
unfolding stands_in
stands_more xs i x p l e = rw (← e) (list_any_more (λ q. eqb q p) xs i 0 l)

-- the marks after page x, which is marked
pub mark_more : (old seen : List Bool) (xs : List ℕ) (i x p : ℕ) → i < length xs → get_or xs i 0 ≡ x → x < length seen →
    get_or seen p false ≡ (get_or old p false || stands_in (take i xs) p) →
    get_or (set seen x true) p false ≡ (get_or old p false || stands_in (take (i + 1) xs) p)
mark_more old seen xs i x p l e within h = rw (stands_more xs i x p l e) (elim (cases_eq p x) [
  | inl same ↦
      rw (same, get_or-set_same seen x true false within, eq-eqb x x refl)
      (or_true (stands_in (take i xs) x) ∙ last (get_or old x false) (stands_in (take i xs) x))
  | inr other ↦
      rw (get_or-set_other seen x p true false other, ne_eqb x p (λ z. other (sym z)), h)
      (ap (λ (b : Bool). get_or old p false || b) (or_none (stands_in (take i xs) p)))
])

-- the marks of the pages below page x after page x, which isn't marked
pub mark_skip : (old seen : List Bool) (xs : List ℕ) (i x p : ℕ) → i < length xs → get_or xs i 0 ≡ x → p < x →
    get_or seen p false ≡ (get_or old p false || stands_in (take i xs) p) →
    get_or seen p false ≡ (get_or old p false || stands_in (take (i + 1) xs) p)
mark_skip old seen xs i x p l e lt h =
    rw (stands_more xs i x p l e, ne_eqb x p (λ z. omega arith), h)
    (ap (λ (b : Bool). get_or old p false || b) (or_none (stands_in (take i xs) p)))
