-- No page of a chain has a misfit exactly where the chain's records are at home and have no key twice.
use Rattle.std.proofs.Common.{◌≡◌, ℕ, suc, ◌<◌, inl, inr, Bool, true, false, not, ◌||◌, eqb, List, [], ◌∷◌, ◌++◌}
use Rattle.std.proofs.Common.{length, get_or, drop, refl, sym, ap, ◌∙◌, ◌↔◌, append_assoc, arith, length-append}
use Rattle.std.proofs.Common.{length-drop}
use Rattle.std.specs.List.{list_any, flat_map, before_first}
use Rattle.std.specs.Str.{bytes_eq}
use Rattle.std.proofs.lemmas.Bool.{eqb-true, eq-eqb, false≢true, or_cases, or_left, or_right, or_parts, or_from}
use Rattle.std.proofs.lemmas.Bool.{false_from_ne_true}
use Rattle.std.proofs.lemmas.List.{append-nil, map-append, get_or_append_left, get_or_at}
use Rattle.std.proofs.lemmas.List.Concat.{flat_map-append}
use Rattle.std.proofs.Math.Numerals.{one-add}
use Rattle.lh_image.specs.Chains.{stands_in, IsPath}
use Rattle.lh_page.specs.declared.pair.Pair.{Pair}
use Rattle.lh_image.specs.Faults.{misfits}
use Rattle.lh_page.specs.Records.{keys_of}
use Rattle.lh_image.proofs.Paths.ShortPaths.{path_from}
use Rattle.lh_image.proofs.Paths.Walks.{path_only}

three : (a b x y z : Bool) → x ≡ (y || z) → (a || b || x) ≡ ((a || b || y) || z)
three true b x y z e = refl
three false true x y z e = refl
three false false x y z e = e

found_at : (xs : List ℕ) (p : ℕ) → stands_in xs p ≡ true → (k : ℕ) × (k < length xs) × (get_or xs k 0 ≡ p)
unfolding stands_in
found_at [] p here = absurd (false≢true here)
found_at (x ∷ xs) p here = elim (or_cases (eqb x p) (list_any (λ y. eqb y p) xs) here) [
  | inl first ↦ (0, omega arith, eqb-true x p first)
  | inr later ↦ let r = found_at xs p later in (suc r.0, omega (arith, r.1), r.2)
]

-- records that come in two parts
pub misfits_cut : (home : List ℕ → Bool) (came : List (List ℕ)) (xs ys : List Pair) →
    misfits home came (xs ++ ys) ≡ (misfits home came xs || misfits home (came ++ keys_of xs) ys)
unfolding misfits
misfits_cut home came [] ys = ap (λ (c : List (List ℕ)). misfits home c ys) (sym (append-nil came))
misfits_cut home came (x ∷ xs) ys =
    let rest = misfits_cut home (came ++ x.key ∷ []) xs ys in
    let group : (came ++ x.key ∷ []) ++ keys_of xs ≡ came ++ (x.key ∷ keys_of xs) =
    append_assoc came (x.key ∷ []) (keys_of xs) in
    let rest2 : misfits home (came ++ x.key ∷ []) (xs ++ ys) ≡
    (misfits home (came ++ x.key ∷ []) xs || misfits home (came ++ (x.key ∷ keys_of xs)) ys) =
    rw group at rest in
    three (not (home x.key)) (list_any (bytes_eq x.key) came) _ _ _ rest2

-- a page that a path comes to hasn't come before
pub not_before : (next : ℕ → ℕ) (before rest : List ℕ) (h p : ℕ) → IsPath next h (before ++ p ∷ rest) →
    stands_in before p ≡ false
not_before next before rest h p path = false_from_ne_true (stands_in before p) (λ here.
    let whole : List ℕ = before ++ p ∷ rest in
    let at = found_at before p here in
    let k1 : at.0 < length whole = omega (arith, at.1, length-append before (p ∷ rest)) in
    let g1 : get_or whole at.0 0 ≡ p = get_or_append_left before (p ∷ rest) 0 at.0 at.1 ∙ at.2 in
    let one : IsPath next p (drop at.0 whole) = rw g1 at (path_from next whole h at.0 path k1) in
    let k2 : length before < length whole = omega (arith, length-append before (p ∷ rest)) in
    let two : IsPath next p (drop (length before) whole) =
    rw (get_or_at before p rest 0 (length before) refl) at (path_from next whole h (length before) path k2) in
    let e = path_only next (drop at.0 whole) (drop (length before) whole) p one two in
    omega (arith, length-drop at.0 whole, length-drop (length before) whole, ap length e, at.1, k2))

-- the pages before the first place of a page are those in front of it, where it isn't one of them
pub before_is : (before rest : List ℕ) (p : ℕ) → stands_in before p ≡ false →
    before_first (λ q. eqb q p) (before ++ p ∷ rest) ≡ before
unfolding stands_in
before_is [] rest p clear = rw (eq-eqb p p refl) refl
before_is (b ∷ bs) rest p clear =
    let parts = or_parts (eqb b p) (list_any (λ q. eqb q p) bs) clear in
    let more = before_is bs rest p parts.1 in
    rw parts.0 (simp one-add (ap (λ (x : List ℕ). b ∷ x) more))

keys_more : (rec : ℕ → List Pair) (before : List ℕ) (p : ℕ) →
    keys_of (flat_map rec (before ++ p ∷ [])) ≡ keys_of (flat_map rec before) ++ keys_of (rec p)
keys_more rec before p =
    let one : flat_map rec (before ++ p ∷ []) ≡ flat_map rec before ++ rec p =
    flat_map-append rec before (p ∷ []) ∙ ap (λ (x : List Pair). flat_map rec before ++ x) (append-nil (rec p)) in
    ap keys_of one ∙ map-append (λ (r : Pair). r.key) (flat_map rec before) (rec p)

-- the pages of a path, each after those before it
pub chain_misfits : (next : ℕ → ℕ) (home : List ℕ → Bool) (rec : ℕ → List Pair) (h : ℕ) (before xs : List ℕ) →
    IsPath next h (before ++ xs) →
    ((p : ℕ) → stands_in xs p ≡ true →
    misfits home (keys_of (flat_map rec (before_first (λ q. eqb q p) (before ++ xs)))) (rec p) ≡ false)
    ↔ (misfits home (keys_of (flat_map rec before)) (flat_map rec xs) ≡ false)
unfolding misfits stands_in
chain_misfits next home rec h before [] path = (λ _. refl, λ _ p here. absurd (false≢true here))
chain_misfits next home rec h before (x ∷ xs) path =
    let came : List (List ℕ) = keys_of (flat_map rec before) in
    let first : before_first (λ q. eqb q x) (before ++ x ∷ xs) ≡ before =
    before_is before xs x (not_before next before xs h x path) in
    let group : (before ++ x ∷ []) ++ xs ≡ before ++ (x ∷ xs) = append_assoc before (x ∷ []) xs in
    let path2 : IsPath next h ((before ++ x ∷ []) ++ xs) = rw group path in
    let rest = chain_misfits next home rec h (before ++ x ∷ []) xs path2 in
    let cut : misfits home came (flat_map rec (x ∷ xs)) ≡
    (misfits home came (rec x) || misfits home (keys_of (flat_map rec (before ++ x ∷ []))) (flat_map rec xs)) =
    misfits_cut home came (rec x) (flat_map rec xs)
    ∙ ap (λ (c : List (List ℕ)). misfits home came (rec x) || misfits home c (flat_map rec xs))
    (sym (keys_more rec before x)) in (
      λ each.
          cut
          ∙ or_from (misfits home came (rec x))
          (misfits home (keys_of (flat_map rec (before ++ x ∷ []))) (flat_map rec xs))
          (rw first at (each x (or_left (eqb x x) (list_any (λ q. eqb q x) xs) (eq-eqb x x refl))))
          (rest.0 (λ p here. rw group (each p (or_right (eqb x p) (list_any (λ q. eqb q p) xs) here)))),
      λ none p here.
          let parts =
          or_parts (misfits home came (rec x))
          (misfits home (keys_of (flat_map rec (before ++ x ∷ []))) (flat_map rec xs)) (sym cut ∙ none) in
          elim (or_cases (eqb x p) (list_any (λ q. eqb q p) xs) here) [
            | inl same ↦ let e : x ≡ p = eqb-true x p same in rw (← e, first) parts.0
            | inr later ↦ rw group at (rest.1 parts.1 p later)
          ],
    )
