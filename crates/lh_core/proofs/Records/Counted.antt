-- A listing has as many records as its plain map
use Rattle.std.proofs.Common.{◌≡◌, ◌≢◌, ℕ, suc, ◌+◌, ◌<◌, false, List, [], ◌∷◌, ◌++◌, length, refl, sym, ap, subst, ◌∙◌}
use Rattle.std.proofs.Common.{arith, length-append}
use Rattle.std.specs.Str.{bytes_eq}
use Rattle.std.specs.List.{AllByRecursion, IsDistinct}
use Rattle.std.specs.FinMap.{len}
use Rattle.std.proofs.lemmas.Bool.{false_from_ne_true}
use Rattle.std.proofs.lemmas.List.{map-append}
use Rattle.std.proofs.lemmas.List.Sums.{sum_by-cons}
use Rattle.std.proofs.lemmas.Map.Keys.{IsDistinct-head, IsDistinct-tail, IsDistinct-cons}
use Rattle.std.proofs.lemmas.Slice.Eq.{bytes_eq-Decides}
use Rattle.lh_addr.specs.Fnv.{code_of}
use Rattle.lh_addr.specs.Growth.{address}
use Rattle.lh_page.specs.declared.pair.Pair.{Pair}
use Rattle.lh_page.specs.Records.{keys_of, key_at}
use Rattle.lh_bucket.specs.Laws.{CountLaw}
use Rattle.lh_bucket.specs.Listing.{Lists, IsListing, all_of, count_of, list_at, size}
use Rattle.lh_core.specs.Opened.{records_of}

-- a key is none of some keys
abbrev IsApart : List ℕ → List (List ℕ) → Type 0
IsApart key keys = AllByRecursion (λ y. bytes_eq key y ≡ false) keys

apart_both : (key : List ℕ) (xs ys : List (List ℕ)) → IsApart key xs → IsApart key ys → IsApart key (xs ++ ys)
apart_both key [] ys h k = k
apart_both key (x ∷ xs) ys h k = (h.0, apart_both key xs ys h.1 k)

-- keys that differ, behind records of other keys that differ
distinct_both : (ps : List Pair) (ys : List (List ℕ)) → IsDistinct bytes_eq (keys_of ps) → IsDistinct bytes_eq ys
    → ((p : ℕ) → p < length ps → IsApart (key_at ps p) ys) → IsDistinct bytes_eq (keys_of ps ++ ys)
distinct_both [] ys d e h = e
distinct_both (x ∷ ps) ys d e h =
    IsDistinct-cons bytes_eq x.key (keys_of ps ++ ys)
    (apart_both x.key (keys_of ps) ys (IsDistinct-head bytes_eq x.key (keys_of ps) d) (h 0 (omega arith)))
    (distinct_both ps ys (IsDistinct-tail bytes_eq x.key (keys_of ps) d) e (λ p below. h (suc p) (omega arith)))

differ : (x y : List ℕ) → x ≢ y → bytes_eq x y ≡ false
differ x y h = false_from_ne_true (bytes_eq x y) (λ e. h ((bytes_eq-Decides x y).0 e))

-- a key is that of no record
apart_from : (key : List ℕ) (ps : List Pair) → ((p : ℕ) → p < length ps → key_at ps p ≢ key) → IsApart key (keys_of ps)
apart_from key [] h = tt
apart_from key (x ∷ ps) h =
    (differ key x.key (λ e. h 0 (omega arith) (sym e)), apart_from key ps (λ p below. h (suc p) (omega arith)))

module _ (home : List ℕ → ℕ) where
  -- each record of some lists, of which the first is bucket j's, stands in the list of its home
  abbrev IsHomeFrom : ℕ → List (List Pair) → Type 0
  IsHomeFrom j lists = (b p : ℕ) → p < length (list_at lists b) → home (key_at (list_at lists b) p) ≡ j + b

  later : (j : ℕ) (ps : List Pair) (lists : List (List Pair)) → IsHomeFrom j (ps ∷ lists) → IsHomeFrom (j + 1) lists
  later j ps lists h b p below = omega (arith, h (suc b) p below)

  -- a key whose home comes before all of the lists is none of theirs
  apart_later : (j : ℕ) (lists : List (List Pair)) → IsHomeFrom j lists → (key : List ℕ) → home key < j →
      IsApart key (keys_of (all_of lists))
  apart_later j [] h key low = tt
  apart_later j (ps ∷ lists) h key low =
      subst (IsApart key) (sym (map-append (λ (p : Pair). p.key) ps (all_of lists)))
      (apart_both key (keys_of ps) (keys_of (all_of lists))
      (apart_from key ps (λ p below same. absurd (omega (arith, h 0 p below, ap home same))))
      (apart_later (j + 1) lists (later j ps lists h) key (omega arith)))

  distinct_all : (j : ℕ) (lists : List (List Pair)) → IsHomeFrom j lists →
      ((b : ℕ) → IsDistinct bytes_eq (keys_of (list_at lists b)))
      → IsDistinct bytes_eq (keys_of (all_of lists))
  unfolding IsDistinct
  distinct_all j [] h d = tt
  distinct_all j (ps ∷ lists) h d =
      subst (IsDistinct bytes_eq) (sym (map-append (λ (p : Pair). p.key) ps (all_of lists)))
      (distinct_both ps (keys_of (all_of lists)) (d 0)
      (distinct_all (j + 1) lists (later j ps lists h) (λ b. d (suc b)))
      (λ p below. apart_later (j + 1) lists (later j ps lists h) (key_at ps p) (omega (arith, h 0 p below))))

length_all : (lists : List (List Pair)) → length (all_of lists) ≡ count_of lists
length_all [] = refl
length_all (ps ∷ lists) =
    length-append ps (all_of lists) ∙ ap (λ n. length ps + n) (length_all lists)
    ∙ sym (sum_by-cons (λ (pairs : List Pair). length pairs) ps lists)

-- all buckets of a listing together have as many records as its plain map
pub counted : CountLaw → (l : Lists) → IsListing l → count_of l.lists ≡ len (records_of l)
counted count l h =
    let home : List ℕ → ℕ = λ key. address l.config.initial (size l) (code_of key) in
    sym (length_all l.lists)
    ∙ sym
    (count (all_of l.lists)
    (distinct_all home 0 l.lists (λ b p below. omega (arith, h.home b p below)) h.distinct))
