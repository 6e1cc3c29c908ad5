-- A chain after one step along `next`, and how many pages name a page after one page more
use Rattle.std.specs.List.{range_with_len, count_by}
use Rattle.std.proofs.lemmas.List.FromFn.{length-range_with_len}
use Rattle.std.proofs.lemmas.List.Sums.{count_by-le-length}
use Rattle.std.proofs.Math.Numerals.{add-one}
use Rattle.lh_image.proofs.Faults.Ranges.{count_cons}
use Rattle.lh_image.specs.Faults.{names}
use Rattle.std.proofs.Common.{eqb, cond, length, get_or, set, Bool, replicate, inl, inr, ◌≡◌, ◌≢◌, ℕ, zero, suc, ◌+◌}
use Rattle.std.proofs.Common.{◌-◌, ◌<◌, ◌≤◌, List, [], ◌∷◌, ◌++◌, refl, sym, ◌∙◌, append_assoc, arith}
use Rattle.std.proofs.lemmas.Bool.{ne_eqb, eq-eqb, cases_eq}
use Rattle.std.proofs.lemmas.List.{append-nil, get_or-set_same, get_or-set_other}
use Rattle.lh_image.specs.Chains.{pages_from}

-- a step along `next` moves the page it leaves to the pages that are done, and the chain stays the same
pub chain_step : (next : ℕ → ℕ) (done : List ℕ) (n i p : ℕ) → i < n → p ≢ 0 →
    (done ++ p ∷ []) ++ pages_from next (n - (i + 1)) (next p) ≡ done ++ pages_from next (n - i) p
unfolding pages_from
chain_step next done n i p lt some =
    let k : n - i ≡ suc (n - (i + 1)) = omega arith in
    rw (k, ne_eqb p 0 some) (append_assoc done (p ∷ []) (pages_from next (n - (i + 1)) (next p)))

-- page 0 adds no pages to those that are done
pub chain_zero : (next : ℕ → ℕ) (done : List ℕ) (k : ℕ) → done ++ pages_from next k 0 ≡ done
unfolding pages_from
chain_zero next done zero = append-nil done
chain_zero next done (suc k) = append-nil done

-- the same of any page, where no more pages may come
pub chain_none : (next : ℕ → ℕ) (done : List ℕ) (p : ℕ) → done ++ pages_from next 0 p ≡ done
unfolding pages_from
chain_none next done p = append-nil done

-- a count over one number more
count_more : (f : ℕ → Bool) (a n : ℕ) →
    count_by f (range_with_len a (suc n)) ≡ count_by f (range_with_len a n) + cond (f (a + n)) 1 0
count_more f a zero = let e : a + 0 ≡ a = omega arith in rw e (omega (arith, count_cons f a 0))
count_more f a (suc n) =
    let e : (a + 1) + n ≡ a + suc n = omega arith in
    let rest : count_by f (range_with_len (a + 1) (suc n)) ≡
    count_by f (range_with_len (a + 1) n) + cond (f (a + suc n)) 1 0 =
    rw e at (count_more f (a + 1) n) in
    omega (arith, count_cons f a (suc n), count_cons f a n)

-- before any page has come, counts of 0 say how many name each page
pub named_none : (next : ℕ → ℕ) (m p : ℕ) → get_or (replicate m 0) p 0 ≡ names next 0 p
unfolding names
named_none next zero p = refl
named_none next (suc m) zero = refl
named_none next (suc m) (suc p) = named_none next m p

-- one page more names the page that follows it once more, and no other
pub named_more : (next : ℕ → ℕ) (n p x : ℕ) → next n ≡ x → names next (n + 1) p ≡ names next n p + cond (eqb x p) 1 0
unfolding names
named_more next n p x e =
    rw add-one (count_more (λ q. eqb (next q) p) 0 n ∙ (let z : 0 + n ≡ n = omega arith in rw (z, e) refl))

-- of the pages that have come, no more name a page than there are
pub named_few : (next : ℕ → ℕ) (n p : ℕ) → names next n p ≤ n
unfolding names
named_few next n p =
    omega (arith, count_by-le-length (λ q. eqb (next q) p) (range_with_len 0 n), length-range_with_len 0 n)

-- the counts after one page more, which names x
pub named_set : (next : ℕ → ℕ) (counts : List ℕ) (n x v : ℕ) → next n ≡ x → x < length counts →
    v ≡ get_or counts x 0 + 1 →
    ((p : ℕ) → p < length counts → get_or counts p 0 ≡ names next n p) → (p : ℕ) → p < length counts →
    get_or (set counts x v) p 0 ≡ names next (n + 1) p
named_set next counts n x v e within value named p below = rw (named_more next n p x e) (elim (cases_eq p x) [
  | inl same ↦ rw (same, get_or-set_same counts x v 0 within, eq-eqb x x refl) (omega (arith, named x within))
  | inr other ↦
      rw (get_or-set_other counts x p v 0 other, ne_eqb x p (λ z. other (sym z))) (omega (arith, named p below))
])

-- a page with a lesser number than the one that is named is named as often as before
pub named_kept : (next : ℕ → ℕ) (n p x : ℕ) → next n ≡ x → p < x → names next (n + 1) p ≡ names next n p
named_kept next n p x e lt = rw (named_more next n p x e, ne_eqb x p (λ z. omega arith)) (omega arith)
