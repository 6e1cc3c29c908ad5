-- Two lists of the same records, in neither of which a key stands twice.
use Rattle.std.proofs.Common.{◌≡◌, ◌<◌, false, true≢false, List, [], ◌∷◌, length, refl, sym, ap, subst, ◌∙◌, arith}
use Rattle.std.proofs.Common.{remove}
use Rattle.std.specs.List.{Contains, IsDistinct}
use Rattle.std.specs.List.Sorted.{IsPermutation}
use Rattle.std.specs.Str.{bytes_eq}
use Rattle.std.specs.Cmp.Lexicographic.{nat_list_eq_equiv, slice_cmp}
use Rattle.std.specs.FinMap.{IsAntisymmetric, nat_cmp-IsAntisymmetric, slice_cmp-IsAntisymmetric}
use Rattle.std.specs.Ordering.{nat_cmp}
use Rattle.std.proofs.lemmas.List.{length-map}
use Rattle.std.proofs.lemmas.List.Elements.{All-contains, All-from_recursion, Contains-append_right}
use Rattle.std.proofs.lemmas.List.Sorted.{Contains-permutation, IsPermutation-cons, IsPermutation-map}
use Rattle.std.proofs.lemmas.List.Sorted.{IsPermutation-refl}
use Rattle.std.proofs.lemmas.List.Sorted.{IsPermutation-remove, IsPermutation-sym, IsPermutation-trans}
use Rattle.std.proofs.lemmas.Map.Keys.{IsDistinct-IsPermutation, IsDistinct-head, IsDistinct-tail}
use Rattle.std.proofs.lemmas.Map.Made.{Contains-tail}
use Rattle.std.proofs.lemmas.Slice.Eq.{bytes_eq-Decides}
use Rattle.std.proofs.Math.ListN.{get_or-map}
use Rattle.lh_page.specs.declared.pair.Pair.{Pair}
use Rattle.lh_page.specs.Records.{keys_of}

-- keys that compare as equal are the same
pub keys_are_exact : IsAntisymmetric (slice_cmp nat_cmp)
keys_are_exact = slice_cmp-IsAntisymmetric nat_cmp-IsAntisymmetric

-- no key stands twice among some records
abbrev pub Distinct : List Pair → Type 0
Distinct pairs = IsDistinct bytes_eq (keys_of pairs)

-- the key of a record is among the keys
pub key_among : (pairs : List Pair) (p : Pair) → Contains pairs p → Contains (keys_of pairs) p.key
key_among pairs p h =
    let below : h.0 < length pairs = h.1 in (
      h.0,
      omega (arith, length-map pairs (λ (q : Pair). q.key)),
      get_or-map (λ (q : Pair). q.key) pairs h.0 p ∙ ap (λ (q : Pair). q.key) h.2,
    )

-- a record in front of others, no key twice, is none of them
not_among : (p : Pair) (pairs : List Pair) → Distinct (p ∷ pairs) → Contains pairs p → ⊥
not_among p pairs d h =
    let apart =
    All-contains (λ key. bytes_eq p.key key ≡ false) (keys_of pairs) p.key
    (All-from_recursion (λ key. bytes_eq p.key key ≡ false) (keys_of pairs)
    (IsDistinct-head bytes_eq p.key (keys_of pairs) d))
    (key_among pairs p h) in
    true≢false (sym ((bytes_eq-Decides p.key p.key).1 refl) ∙ apart)

-- nor does one where they change places
distinct_permuted : (xs ys : List Pair) → IsPermutation xs ys → Distinct xs → Distinct ys
distinct_permuted xs ys p d =
    IsDistinct-IsPermutation bytes_eq nat_list_eq_equiv.symm _ _ (IsPermutation-map (λ (q : Pair). q.key) xs ys p) d

-- each record of one list is in another
abbrev pub IsWithin : List Pair → List Pair → Type 0
IsWithin xs ys = (p : Pair) → Contains xs p → Contains ys p

-- what is in a list and not its first record is in the rest
within_rest : (x : Pair) (xs rest : List Pair) → Distinct (x ∷ xs) → IsWithin (x ∷ xs) (x ∷ rest) → IsWithin xs rest
within_rest x xs rest d to p h =
    Contains-tail x rest p (λ e. not_among x xs d (subst (Contains xs) (sym e) h))
    (to p (Contains-append_right (x ∷ []) xs p h))

-- lists that have the same records, no key twice, are one another in some order
pub same_records : (xs ys : List Pair) → Distinct xs → Distinct ys → IsWithin xs ys → IsWithin ys xs →
    IsPermutation xs ys
same_records [] [] dx dy to from = IsPermutation-refl []
same_records [] (y ∷ ys) dx dy to from = absurd (omega (arith, (from y (0, omega arith, refl)).1))
same_records (x ∷ xs) ys dx dy to from =
    let at = to x (0, omega arith, refl) in
    let rest = remove ys at.0 in
    let moved : IsPermutation ys (x ∷ rest) = IsPermutation-remove ys at.0 x at.1 (sym at.2) in
    let back = IsPermutation-sym ys (x ∷ rest) moved in
    let dr : Distinct (x ∷ rest) = distinct_permuted ys (x ∷ rest) moved dy in
    IsPermutation-trans (x ∷ xs) (x ∷ rest) ys
    (IsPermutation-cons x xs rest
    (same_records xs rest (IsDistinct-tail bytes_eq x.key (keys_of xs) dx)
    (IsDistinct-tail bytes_eq x.key (keys_of rest) dr)
    (within_rest x xs rest dx (λ p h. Contains-permutation ys (x ∷ rest) p moved (to p h)))
    (within_rest x rest xs dr (λ p h. from p (Contains-permutation (x ∷ rest) ys p back h)))))
    back
