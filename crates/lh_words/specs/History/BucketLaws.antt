-- Laws of numbers, levels and codes of single buckets
use Rattle.std.proofs.Common.{◌≡◌, ◌≢◌, ℕ, ◌+◌, ◌<◌, ◌≤◌, ◌⊎◌, ⊎_elim, eqb, refl, sym, ap, ◌∙◌, arith, eq-eqb, ne_eqb}
use mathlib.Core.Logic.{dite}
use native.Mathlib.Decide.{ℕ_discrete}
use Rattle.lh_addr.specs.Growth.{hash_at, level, level_of, pointer, address, AddressLaw, IsRoot, RootLaw}
use Rattle.lh_words.specs.History.Buckets.{bit}

-- the root of a file
pub root_of : RootLaw → (initial buckets : ℕ) → 1 ≤ initial → initial ≤ buckets →
    IsRoot initial buckets (level initial buckets) (pointer initial buckets)
root_of law initial buckets some from =
    (law initial buckets (level initial buckets) (pointer initial buckets) some from).1 (refl, refl)

-- a bucket at its place has the codes of its address
pub addressed : AddressLaw → (N S c i : ℕ) → 1 ≤ N → N ≤ S → i < S →
    eqb (hash_at N (level_of N S i) c) i ≡ eqb (address N S c) i
addressed law N S c i pos least below = dite (ℕ_discrete (hash_at N (level_of N S i) c) i)
    (λ e.
    eq-eqb (hash_at N (level_of N S i) c) i e
    ∙ sym (eq-eqb (address N S c) i ((law N S c i pos least).1 (below, e))))
    (λ ne.
    ne_eqb (hash_at N (level_of N S i) c) i ne
    ∙ sym (ne_eqb (address N S c) i (λ e. ne ((law N S c i pos least).0 e).1)))

-- 1 where two numbers are equal, else 0
abbrev same_bit : ℕ → ℕ → ℕ
same_bit a b = bit (eqb a b)

yes : (a b : ℕ) → a ≡ b → same_bit a b ≡ 1
yes a b e = ap bit (eq-eqb a b e)

no : (a b : ℕ) → a ≢ b → same_bit a b ≡ 0
no a b ne = ap bit (ne_eqb a b ne)

-- x is r or p more than r: it is n or p more than n just where r is n
pub split_at : (x r n p : ℕ) → r < p → n < p → (x ≡ r) ⊎ (x ≡ r + p) → same_bit x n + same_bit x (n + p) ≡ same_bit r n
split_at x r n p small below is = dite (ℕ_discrete r n)
    (λ e. ⊎_elim
    (λ low. omega (arith, yes r n e, yes x n (low ∙ e), no x (n + p) (λ h. omega arith)))
    (λ high. omega (arith, yes r n e, no x n (λ h. omega arith), yes x (n + p) (omega arith)))
    is)
    (λ ne. ⊎_elim
    (λ low. omega (arith, no r n ne, no x n (λ h. ne (sym low ∙ h)), no x (n + p) (λ h. omega arith)))
    (λ high. omega (arith, no r n ne, no x n (λ h. omega arith), no x (n + p) (λ h. ne (omega arith))))
    is)
