-- The records of a listing, bucket by bucket.
use Rattle.std.proofs.Common.{◌≡◌, ℕ, zero, suc, ◌+◌, ◌<◌, ◌≤◌, Bool, true, false, cond, List, [], ◌∷◌, ◌++◌, length}
use Rattle.std.proofs.Common.{◌==◌, None, refl, sym, ap, subst, ◌∙◌, arith, flat_map}
use Rattle.std.specs.FinMap.{get, get-retain_keys, retain_keys, same_map}
use Rattle.std.specs.Cmp.Lexicographic.{nat_list_cmp_total}
use Rattle.std.specs.List.{All, range_with_len}
use Rattle.std.specs.Str.{bytes_eq}
use Rattle.std.proofs.lemmas.Bool.{false_from_ne_true}
use Rattle.std.proofs.lemmas.Bool.Decides.{nat_tests}
use Rattle.std.proofs.lemmas.List.{map-append}
use Rattle.std.proofs.lemmas.List.Elements.{All-append, All-from_get_or, All-head, All-nil, All-tail, All-weaker}
use Rattle.std.proofs.lemmas.List.Elements.{All-from_recursion, All-map, recursion_from_All}
use Rattle.std.proofs.lemmas.Map.Keys.{IsDistinct-cons, IsDistinct-head, IsDistinct-tail}
use Rattle.std.proofs.lemmas.Slice.Eq.{bytes_eq-Decides}
use Rattle.lh_addr.specs.Fnv.{code_of}
use Rattle.lh_addr.specs.Growth.{address, AddressLaw}
use Rattle.lh_addr.specs.Settings.{Settings}
use Rattle.lh_page.specs.declared.pair.Pair.{Pair}
use Rattle.lh_page.specs.Records.{key_at, keys_of, no_pair}
use Rattle.lh_bucket.specs.Laws.{PlacedLaw}
use Rattle.lh_bucket.specs.Listing.{IsListing, Lists, all_of, list_at, size}
use Rattle.lh_bucket.specs.PlainMap.{Records}
use Rattle.lh_bucket.specs.Records.{map_of}
use Rattle.lh_core.specs.Listed.{IsListed}
use Rattle.lh_exchange_laws.proofs.SameRecords.{Distinct, keys_are_exact}

-- numbers from one later on
range-suc : {A : Type 0} (f : ℕ → List A) (n start : ℕ) →
    flat_map f (range_with_len (start + 1) n) ≡ flat_map (λ i. f (suc i)) (range_with_len start n)
range-suc f zero start = refl
range-suc f (suc n) start = let next : start + 1 ≡ suc start = omega arith in
    ap (λ (i : ℕ). f i ++ flat_map f (range_with_len (start + 1 + 1) n)) next
    ∙ ap (λ more. f (suc start) ++ more) (range-suc f n (start + 1))

-- the lists of all buckets, taken by their numbers, are the lists one after another
pub numbered : (lists : List (List Pair)) → flat_map (list_at lists) (range_with_len 0 (length lists)) ≡ all_of lists
numbered [] = refl
numbered (pairs ∷ lists) =
    ap (λ more. pairs ++ more) (range-suc (list_at (pairs ∷ lists)) (length lists) 0 ∙ numbered lists)

module _ (home : List ℕ → ℕ) where
  -- each record of some lists, of which the first is bucket j's, stands in the list of its home
  abbrev IsHomeFrom : ℕ → List (List Pair) → Type 0
  IsHomeFrom j lists = (b place : ℕ) → place < length (list_at lists b) → home (key_at (list_at lists b) place) ≡ j + b

  -- so does each of the lists behind the first
  behind : (j : ℕ) (pairs : List Pair) (lists : List (List Pair)) → IsHomeFrom j (pairs ∷ lists) →
      IsHomeFrom (j + 1) lists
  behind j pairs lists h b place below = omega (arith, h (suc b) place below)

  -- the first has records of one home
  here : (j : ℕ) (pairs : List Pair) (lists : List (List Pair)) → IsHomeFrom j (pairs ∷ lists) →
      All (λ (p : Pair). home p.key ≡ j) pairs
  here j pairs lists h =
      All-from_get_or (λ (p : Pair). home p.key ≡ j) pairs no_pair (λ place below. omega (arith, h 0 place below))

  -- no record of these lists has a home before the first
  none_before : (j : ℕ) (lists : List (List Pair)) → IsHomeFrom j lists →
      All (λ (p : Pair). j ≤ home p.key) (all_of lists)
  none_before j [] h = All-nil (λ (p : Pair). j ≤ home p.key)
  none_before j (pairs ∷ lists) h =
      All-append (λ (p : Pair). j ≤ home p.key) pairs (all_of lists)
      (All-weaker (λ (p : Pair). home p.key ≡ j) (λ (p : Pair). j ≤ home p.key) (λ p e. omega (arith, e)) pairs
      (here j pairs lists h))
      (All-weaker (λ (p : Pair). j + 1 ≤ home p.key) (λ (p : Pair). j ≤ home p.key) (λ p le. omega (arith, le))
      (all_of lists) (none_before (j + 1) lists (behind j pairs lists h)))

  -- a key of one home, and records of later ones
  differs : (j : ℕ) (key : List ℕ) (p : Pair) → home key ≡ j → j + 1 ≤ home p.key → bytes_eq key p.key ≡ false
  differs j key p e le =
      false_from_ne_true (bytes_eq key p.key)
      (λ same. absurd (omega (arith, e, le, ap home ((bytes_eq-Decides key p.key).0 same))))

  -- records of one home in front of records of later ones
  joined : (j : ℕ) (pairs rest : List Pair) → All (λ (p : Pair). home p.key ≡ j) pairs →
      All (λ (p : Pair). j + 1 ≤ home p.key) rest → Distinct pairs → Distinct rest → Distinct (pairs ++ rest)
  joined j [] rest near far d dr = dr
  joined j (p ∷ ps) rest near far d dr =
      IsDistinct-cons bytes_eq p.key (keys_of (ps ++ rest))
      (recursion_from_All (λ key. bytes_eq p.key key ≡ false) (keys_of (ps ++ rest))
      (subst (All (λ key. bytes_eq p.key key ≡ false)) (sym (map-append (λ (q : Pair). q.key) ps rest))
      (All-append (λ key. bytes_eq p.key key ≡ false) (keys_of ps) (keys_of rest)
      (All-from_recursion (λ key. bytes_eq p.key key ≡ false) (keys_of ps)
      (IsDistinct-head bytes_eq p.key (keys_of ps) d))
      (All-map (λ key. bytes_eq p.key key ≡ false) (λ (q : Pair). q.key) rest
      (All-weaker (λ (q : Pair). j + 1 ≤ home q.key) (λ (q : Pair). bytes_eq p.key q.key ≡ false)
      (λ q le. differs j p.key q (All-head (λ (q : Pair). home q.key ≡ j) p ps near) le) rest far)))))
      (joined j ps rest (All-tail (λ (q : Pair). home q.key ≡ j) p ps near) far
      (IsDistinct-tail bytes_eq p.key (keys_of ps) d) dr)

  -- no key stands twice where none does in any list
  all_distinct : (j : ℕ) (lists : List (List Pair)) → IsHomeFrom j lists →
      ((b : ℕ) → Distinct (list_at lists b)) → Distinct (all_of lists)
  all_distinct j [] h d = d 0
  all_distinct j (pairs ∷ lists) h d =
      let far = behind j pairs lists h in
      joined j pairs (all_of lists) (here j pairs lists h) (none_before (j + 1) lists far) (d 0)
      (all_distinct (j + 1) lists far (λ b. d (suc b)))

-- no key stands twice in a listing
pub listing_distinct : (l : Lists) → IsListing l → Distinct (all_of l.lists)
listing_distinct l kept =
    all_distinct (λ key. address l.config.initial (size l) (code_of key)) 0 l.lists
    (λ b place below. omega (arith, kept.home b place below)) kept.distinct

-- what a part of a map has at a key that belongs to it
at_home : (m : Records) (p : List ℕ → Bool) (q : List ℕ) → p q ≡ true → get (retain_keys m p) q ≡ get m q
at_home m p q is =
    get-retain_keys m p q (λ x h. ap p (sym (keys_are_exact q x h))) ∙ ap (λ b. cond b (get m q) None) is

-- a number is itself
is_itself : (n : ℕ) → (n == n) ≡ true
is_itself n = grind (arith, nat_tests)

-- the records of a listing of a map are those of the map
pub listed_map : AddressLaw → PlacedLaw → (settings : Settings) (map : Records) (count : ℕ) (l : Lists) →
    IsListed settings map count l → map_of (all_of l.lists) ≡ map
listed_map address_law placed settings m count l h = same_map nat_list_cmp_total keys_are_exact _ _ (λ q.
    let initial = l.config.initial in
    let i = address initial (size l) (code_of q) in
    let below : i < size l =
    ((address_law initial (size l) (code_of q) i h.listing.config.initial.0 h.listing.shape.from_initial).0 refl).0 in
    let home = λ (config : Settings) (key : List ℕ). address config.initial (size l) (code_of key) == i in
    sym (at_home (map_of (all_of l.lists)) (home l.config) q (is_itself i))
    ∙ ap (λ (part : Records). get part q) (sym (placed l i h.listing below) ∙ h.placed i below)
    ∙ at_home m (home settings) q (ap (λ (config : Settings). home config q) (sym h.config) ∙ is_itself i))
