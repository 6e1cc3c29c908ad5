-- The buckets of a listing have the records of their addresses.
use Rattle.std.proofs.Common.{◌≡◌, ℕ, zero, suc, ◌+◌, ◌<◌, Bool, true, false, cond, nat_eq, List, [], ◌∷◌, map, length}
use Rattle.std.proofs.Common.{None, refl, sym, ap, ◌∙◌, arith}
use Rattle.std.specs.Str.{bytes_eq}
use Rattle.std.specs.Map.{lookup}
use Rattle.std.proofs.lemmas.Bool.{both_ways}
use Rattle.std.proofs.lemmas.Bool.Decides.{nat_tests}
use Rattle.std.proofs.lemmas.Map.Views.{exact_unsigned_eq}
use Rattle.lh_addr.specs.Fnv.{code_of}
use Rattle.lh_addr.specs.Growth.{address}
use Rattle.lh_page.specs.declared.pair.Pair.{Pair}
use Rattle.lh_page.specs.Records.{key_at}
use Rattle.lh_bucket.specs.Records.{entry_of, map_of}
use Rattle.lh_bucket.specs.Listing.{all_of, list_at, size}
use Rattle.lh_bucket.specs.Laws.{PlacedLaw}
use Rattle.lh_bucket.proofs.MapOf.{same_records, get-map_of, get-retained}
use Rattle.lh_bucket.proofs.RecordLaws.{lookup-absent, lookup-both, lookup-first}

module _ (home : List ℕ → ℕ) where
  -- each record of some lists, of which the first is bucket j's, stands in the list of its home
  abbrev IsHomeFrom : ℕ → List (List Pair) → Type 0
  IsHomeFrom j lists = (b p : ℕ) → p < length (list_at lists b) → home (key_at (list_at lists b) p) ≡ j + b

  later : (j : ℕ) (ps : List Pair) (lists : List (List Pair)) → IsHomeFrom j (ps ∷ lists) → IsHomeFrom (j + 1) lists
  later j ps lists h b p below = omega (arith, h (suc b) p below)

  -- a key whose home comes before all of the lists
  before : (j : ℕ) (lists : List (List Pair)) → IsHomeFrom j lists → (q : List ℕ) → home q < j →
      lookup (bytes_eq q) (map entry_of (all_of lists)) ≡ None
  before j [] h q low = refl
  before j (ps ∷ lists) h q low =
      lookup-both ps (all_of lists) q
      (lookup-absent ps q (λ p below same. absurd (omega (arith, h 0 p below, ap home same))))
      ∙ before (j + 1) lists (later j ps lists h) q (omega arith)

  -- a key is looked for in the list of its home
  at_home : (j : ℕ) (lists : List (List Pair)) → IsHomeFrom j lists → (q : List ℕ) (b : ℕ) → home q ≡ j + b →
      lookup (bytes_eq q) (map entry_of (all_of lists)) ≡ lookup (bytes_eq q) (map entry_of (list_at lists b))
  at_home j [] h q b is = refl
  at_home j (ps ∷ lists) h q zero is =
      lookup-first ps (all_of lists) q (before (j + 1) lists (later j ps lists h) q (omega arith))
  at_home j (ps ∷ lists) h q (suc b) is =
      lookup-both ps (all_of lists) q
      (lookup-absent ps q (λ p below same. absurd (omega (arith, h 0 p below, ap home same))))
      ∙ at_home (j + 1) lists (later j ps lists h) q b (omega arith)

  chosen : (lists : List (List Pair)) (b : ℕ) → IsHomeFrom 0 lists → (q : List ℕ) (t : Bool) → nat_eq (home q) b ≡ t →
      lookup (bytes_eq q) (map entry_of (list_at lists b)) ≡
      cond t (lookup (bytes_eq q) (map entry_of (all_of lists))) None
  chosen lists b h q true e = sym (at_home 0 lists h q b (omega (arith, exact_unsigned_eq (home q) b e)))
  chosen lists b h q false e = lookup-absent (list_at lists b) q (λ p below same.
      let other : home q ≡ b = omega (arith, h b p below, ap home same) in
      both_ways (nat_eq (home q) b) e (equal (home q) b other))
    where
      equal : (m n : ℕ) → m ≡ n → nat_eq m n ≡ true
      equal m n e = grind (arith, nat_tests)

-- each bucket of a listing has just those records of the whole listing whose keys have its address
pub placed_law : PlacedLaw
placed_law l bucket kept within =
    let home : List ℕ → ℕ = λ key. address l.config.initial (size l) (code_of key) in
    same_records _ _ (λ q.
    get-map_of (list_at l.lists bucket) q
    ∙ chosen home l.lists bucket (λ b p below. omega (arith, kept.home b p below)) q (nat_eq (home q) bucket) refl
    ∙ sym (get-retained (map_of (all_of l.lists)) (λ key. nat_eq (home key) bucket) q
    ∙ ap (λ o. cond (nat_eq (home q) bucket) o None) (get-map_of (all_of l.lists) q)))
