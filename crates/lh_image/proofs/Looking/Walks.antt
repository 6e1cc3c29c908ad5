-- A walk from place to place comes to each record once
use Rattle.std.proofs.Common.{◌≡◌, ℕ, zero, suc, ◌+◌, ◌<◌, ◌≤◌, Bool, true, false, List, [], ◌∷◌, length, get_or, map}
use Rattle.std.proofs.Common.{Some, refl, sym, ap, subst, inl, inr, arith}
use Rattle.std.specs.FinMap.{get}
use Rattle.std.specs.List.{AllByRecursion, Contains, IsDistinct}
use Rattle.std.specs.Str.{bytes_eq}
use Rattle.std.proofs.lemmas.Bool.{cases_eq, cases_lt}
use Rattle.std.proofs.lemmas.List.Elements.{Contains-append_cases}
use Rattle.std.proofs.lemmas.Slice.Eq.{bytes_eq-Decides}
use Rattle.lh_page.specs.declared.pair.Pair.{Pair}
use Rattle.lh_page.specs.Records.{keys_of}
use Rattle.lh_bucket.specs.Listing.{Lists, all_of}
use Rattle.lh_bucket.specs.Records.{map_of}
use Rattle.lh_image.specs.Indexed.{HasEachOnce, HasRecordAt, IsWalk, PlacesLaw, WalkLaw, placed_at}

alone : (x r : Pair) (k : ℕ) → k < 1 → get_or (x ∷ []) k r ≡ r → x ≡ r
alone x r zero low is = is
alone x r (suc k) low is = absurd (omega (arith, low))

module _ (bytes : List ℕ) where
  cons_has : (x : ℕ) (xs : List ℕ) (r : Pair) → Contains (map (placed_at bytes) xs) r →
      Contains (map (placed_at bytes) (x ∷ xs)) r
  cons_has x xs r (k, low, is) =
      let more : k + 1 < length (map (placed_at bytes) (x ∷ xs)) = omega arith in
      (k + 1, more, grind (arith, is))

  -- a walk comes to each record from its place on
  comes_to : (from : ℕ) (ats : List ℕ) (at : ℕ) → IsWalk bytes from ats → from ≤ at → HasRecordAt bytes at →
      Contains (map (placed_at bytes) ats) (placed_at bytes at)
  comes_to from [] at walk behind has = absurd (walk at behind has)
  comes_to from (x ∷ ats) at walk behind has = elim (cases_lt at x) [
    | inl before ↦ absurd (walk.2 at behind before has)
    | inr level ↦ elim (cases_eq at x) [
      | inl same ↦ (0, omega arith, ap (placed_at bytes) (sym same))
      | inr other ↦
          cons_has x ats (placed_at bytes at) (comes_to (x + 1) ats at walk.3 (above at x level other) has)
    ]
  ]
    where
      above : (at x : ℕ) → x ≤ at → (at ≡ x → ⊥) → x + 1 ≤ at
      above at x level other = omega arith

  -- what a walk comes to has a place
  stands_at : (from : ℕ) (ats : List ℕ) (r : Pair) → IsWalk bytes from ats → Contains (map (placed_at bytes) ats) r →
      (at : ℕ) × (from ≤ at) × HasRecordAt bytes at × (placed_at bytes at ≡ r)
  stands_at from [] r walk (k, low, is) = absurd (omega (arith, low))
  stands_at from (x ∷ ats) r walk has =
      elim (Contains-append_cases (placed_at bytes x ∷ []) (map (placed_at bytes) ats) r has) [
        | inl here ↦ (x, walk.0, walk.1, alone (placed_at bytes x) r here.0 here.1 here.2)
        | inr there ↦
            let (at, behind, own, is) = stands_at (x + 1) ats r walk.3 there in
            (at, omega (arith, behind, walk.0), own, is)
      ]

  -- where each record has one place, no key comes twice
  keys_apart : (l : Lists) → HasEachOnce bytes l → (x : ℕ) (from : ℕ) (ats : List ℕ) → HasRecordAt bytes x → x < from →
      IsWalk bytes from ats →
      AllByRecursion (λ y. bytes_eq (placed_at bytes x).key y ≡ false) (keys_of (map (placed_at bytes) ats))
  keys_apart l each x from [] has before walk = tt
  keys_apart l each x from (y ∷ ats) has before walk = (
    other (bytes_eq (placed_at bytes x).key (placed_at bytes y).key) refl,
    keys_apart l each x (y + 1) ats has (omega (arith, before, walk.0)) walk.3,
  )
    where
      other : (b : Bool) → bytes_eq (placed_at bytes x).key (placed_at bytes y).key ≡ b → b ≡ false
      other false e = refl
      other true e =
          absurd
          (omega (
            arith,
            before,
            walk.0,
            each.once x y has walk.1 ((bytes_eq-Decides (placed_at bytes x).key (placed_at bytes y).key).0 e),
          ))

  once_each : (l : Lists) → HasEachOnce bytes l → (from : ℕ) (ats : List ℕ) → IsWalk bytes from ats →
      IsDistinct bytes_eq (keys_of (map (placed_at bytes) ats))
  unfolding IsDistinct
  once_each l each from [] walk = tt
  once_each l each from (x ∷ ats) walk =
      (keys_apart l each x (x + 1) ats walk.1 (omega arith) walk.3, once_each l each (x + 1) ats walk.3)

-- in an image of a listing a walk from 0 on comes to each record of its map once, and to no other
pub walk_law : PlacesLaw → WalkLaw
walk_law places bytes l ats image walk =
    let each = places bytes l image in
    record {
      same = λ key value. (
        λ e.
            let (at, has, is) = each.there key value e in
            subst (Contains (map (placed_at bytes) ats)) is (comes_to bytes 0 ats at walk (omega arith) has),
        λ has.
            let (at, behind, own, is) = stands_at bytes 0 ats (record { key = key; value = value }) walk has in
            subst (λ (r : Pair). get (map_of (all_of l.lists)) r.key ≡ Some r.value) is (each.own at own),
      );
      once = once_each bytes l each 0 ats walk;
    }
