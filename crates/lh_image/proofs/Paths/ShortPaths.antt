-- A path has no page twice, so it has no more pages than there are, and the chains are the paths.
use Rattle.std.proofs.Common.{◌≡◌, ℕ, zero, suc, ◌+◌, ◌<◌, ◌≤◌, inl, inr, true, eqb, List, [], ◌∷◌, length, get_or}
use Rattle.std.proofs.Common.{drop, refl, sym, ap, arith, length-drop}
use Rattle.std.specs.List.{list_any}
use Rattle.std.proofs.lemmas.Bool.{cases_order, eq-eqb, or_right, or_left}
use Rattle.lh_image.specs.Chains.{stands_in, IsPath, IsCovered, chain, ChainLaw}
use Rattle.lh_image.proofs.Paths.Pigeons.{pigeonhole}
use Rattle.lh_image.proofs.Paths.Walks.{path_only, path_is, covered_chains, covered_same, linked_from_covered}

-- the rest of a path, from one of its pages on, is a path from that page
pub path_from : (next : ℕ → ℕ) (xs : List ℕ) (h k : ℕ) → IsPath next h xs → k < length xs →
    IsPath next (get_or xs k 0) (drop k xs)
path_from next [] h k path l = absurd (omega arith)
path_from next (x ∷ xs) h zero path l = rw path.0 (refl, path.1, path.2)
path_from next (x ∷ xs) h (suc k) path l = path_from next xs (next h) k path.2 (omega arith)

-- the page at each place of a list stands in it
pub stands_at : (xs : List ℕ) (k : ℕ) → k < length xs → stands_in xs (get_or xs k 0) ≡ true
unfolding stands_in
stands_at [] k l = absurd (omega arith)
stands_at (x ∷ xs) zero l = or_left (eqb x x) (list_any (λ y. eqb y x) xs) (eq-eqb x x refl)
stands_at (x ∷ xs) (suc k) l =
    or_right (eqb x (get_or xs k 0)) (list_any (λ y. eqb y (get_or xs k 0)) xs) (stands_at xs k (omega arith))

-- a path has no page twice, so it has no more pages than there are
pub path_short : (next : ℕ → ℕ) (xs : List ℕ) (h P : ℕ) → IsPath next h xs → ((p : ℕ) → stands_in xs p ≡ true → p < P) →
    length xs ≤ P
path_short next xs h P path within =
    let less : (j k : ℕ) → j < k → k < length xs → get_or xs j 0 ≡ get_or xs k 0 → ⊥ =
    λ j k l m e.
    let a : IsPath next (get_or xs j 0) (drop j xs) = path_from next xs h j path (omega arith) in
    let b : IsPath next (get_or xs k 0) (drop k xs) = path_from next xs h k path m in
    let c : IsPath next (get_or xs j 0) (drop k xs) = rw e b in
    let d : drop j xs ≡ drop k xs = path_only next (drop j xs) (drop k xs) (get_or xs j 0) a c in
    omega (arith, length-drop j xs, length-drop k xs, ap length d) in
    let one : (j k : ℕ) → j < length xs → k < length xs → get_or xs j 0 ≡ get_or xs k 0 → j ≡ k =
    λ j k l m e. elim (cases_order j k) [
      | inl same ↦ same
      | inr other ↦ elim other [
        | inl lt ↦ absurd (less j k lt m e)
        | inr gt ↦ absurd (less k j gt l (sym e))
      ]
    ] in
    pigeonhole (length xs) P (λ k. get_or xs k 0) (λ k l. within (get_or xs k 0) (stands_at xs k l)) one

-- where each page stands on the path of its bucket, the paths are the chains
pub paths_are_chains : (next bucket : ℕ → ℕ) (S P : ℕ) (path : ℕ → List ℕ) → IsCovered next bucket S P path → (i : ℕ) →
    i < S → chain next P i ≡ path i
paths_are_chains next bucket S P path covered i l =
    path_is next (path i) (1 + i) P (covered.follows i l)
    (path_short next (path i) (1 + i) P (covered.follows i l) (λ p here. (covered.own i p l here).1))

-- pages that are linked and each on a chain have the chains as their paths, and no others have paths
pub chain_law : ChainLaw
chain_law next bucket S P path none some = (
  λ a. covered_same next bucket S P (chain next P) path a.2 (covered_chains next bucket S P none some a.0 a.1),
  λ c. (
    linked_from_covered next bucket S P path none c,
    λ p low high.
        let at = c.all p low high in
        (bucket p, at.0, rw (paths_are_chains next bucket S P path c (bucket p) at.0) at.1),
    λ i l. sym (paths_are_chains next bucket S P path c i l),
  ),
)
