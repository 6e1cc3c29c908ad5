-- Records that are those of a map, each in the bucket of its address
use Rattle.std.proofs.Common.{◌≡◌, ◌≢◌, ℕ, zero, suc, ◌+◌, ◌<◌, ◌≤◌, Bool, true, false, cond, ◌||◌, nat_eq, ⊎_elim}
use Rattle.std.proofs.Common.{List, [], ◌∷◌, ◌++◌, map, length, Option, Some, None, is_some, refl, sym, ap, subst, ◌∙◌}
use Rattle.std.proofs.Common.{arith, append-nil}
use Rattle.std.specs.Option.{option_to_list, IsSome}
use Rattle.std.specs.Str.{bytes_eq}
use Rattle.std.specs.List.{filter, slice_get, AllByRecursion, IsDistinct, list_any}
use Rattle.std.specs.FinMap.{get, retain_keys}
use Rattle.std.proofs.lemmas.Bool.{cases_lt, false≢true}
use Rattle.std.proofs.lemmas.Bool.Decides.{nat_tests}
use Rattle.std.proofs.lemmas.Map.Keys.{IsDistinct-head, IsDistinct-tail, IsDistinct-cons}
use Rattle.std.proofs.lemmas.Map.Views.{exact_unsigned_eq}
use Rattle.lh_addr.specs.Fnv.{code_of}
use Rattle.lh_addr.specs.Growth.{address}
use Rattle.lh_page.specs.declared.pair.Pair.{Pair}
use Rattle.lh_page.specs.Records.{keys_of, key_at}
use Rattle.lh_bucket.specs.Listing.{IsHome, EachPlace, all_of, list_at}
use Rattle.lh_bucket.specs.PlainMap.{Records}
use Rattle.lh_bucket.specs.Records.{map_of}
use Rattle.lh_settling.specs.Contents.{values_under, ArePlaced, StandsAs}
use Rattle.lh_settling.proofs.Values.{apart, equals, itself, same_records, get_first, get-map_of-cons, get-retained}
use Rattle.lh_settling.proofs.Values.{values_under-append}

abbrev Under : List ℕ → Pair → List Pair → Bool → List (List ℕ)
Under q p ps b = map (λ (p : Pair). p.value)
    (cond b (p ∷ filter (λ p. bytes_eq q p.key) ps) (filter (λ p. bytes_eq q p.key) ps))

-- no record has the key
values_absent : (ps : List Pair) (q : List ℕ) → ((p : ℕ) → p < length ps → key_at ps p ≢ q) → values_under q ps ≡ []
values_absent [] q h = refl
values_absent (p ∷ ps) q h =
    ap (Under q p ps) (apart q p.key (λ e. h 0 (omega arith) (sym e)))
    ∙ values_absent ps q (λ k below. h (suc k) (omega arith))

-- a record with the key is there
pub values_there : (ps : List Pair) (k : ℕ) → k < length ps → IsSome (get (map_of ps) (key_at ps k))
values_there [] k below = absurd (omega arith)
values_there (p ∷ ps) zero below =
    ap is_some (get-map_of-cons p ps p.key ∙ ap (λ b. cond b (Some p.value) (get (map_of ps) p.key)) (itself p.key))
values_there (p ∷ ps) (suc k) below =
    subst IsSome (sym (get-map_of-cons p ps (key_at ps k)))
    (elim (bytes_eq (key_at ps k) p.key) as (λ b. IsSome (cond b (Some p.value) (get (map_of ps) (key_at ps k)))) [
      | true ↦ refl
      | false ↦ values_there ps k (omega arith)
    ])

-- no key stands twice exactly if each has one value at most
apart_all : (ps : List Pair) (k : List ℕ) → values_under k ps ≡ []
    → AllByRecursion (λ y. bytes_eq k y ≡ false) (keys_of ps)
apart_all [] k e = tt
apart_all (p ∷ ps) k e =
    elim (bytes_eq k p.key) as (λ b. Under k p ps b ≡ [] → (b ≡ false)
    × AllByRecursion (λ y. bytes_eq k y ≡ false) (keys_of ps)) [
      | true ↦ λ e. absurd (full p.value (values_under k ps) e)
      | false ↦ λ e. (refl, apart_all ps k e)
    ] e
  where
    full : (x : List ℕ) (xs : List (List ℕ)) → x ∷ xs ≡ [] → ⊥
    full x xs e = cc

absent_all : (ps : List Pair) (k : List ℕ) → AllByRecursion (λ y. bytes_eq k y ≡ false) (keys_of ps)
    → values_under k ps ≡ []
absent_all [] k h = refl
absent_all (p ∷ ps) k h = ap (Under k p ps) h.0 ∙ absent_all ps k h.1

-- two tests both fail where not even one of them passes
pub either_or : (a b : Bool) → (a || b) ≡ false → (a ≡ false) × (b ≡ false)
either_or true b e = absurd (false≢true (sym e))
either_or false b e = (refl, e)

-- no key of some records passes for this one
pub absent_any : (ps : List Pair) (q : List ℕ) → list_any (bytes_eq q) (keys_of ps) ≡ false → values_under q ps ≡ []
absent_any [] q e = refl
absent_any (p ∷ ps) q e =
    let both = either_or (bytes_eq q p.key) (list_any (bytes_eq q) (keys_of ps)) e in
    ap (Under q p ps) both.0 ∙ absent_any ps q both.1

no_more : (xs : List (List ℕ)) → suc (length xs) ≤ 1 → xs ≡ []
no_more [] h = refl
no_more (x ∷ xs) h = absurd (omega arith)

distinct_few : (ps : List Pair) → ((q : List ℕ) → length (values_under q ps) ≤ 1) → IsDistinct bytes_eq (keys_of ps)
unfolding IsDistinct
distinct_few [] few = tt
distinct_few (p ∷ ps) few =
    IsDistinct-cons bytes_eq p.key (keys_of ps)
    (apart_all ps p.key (no_more (values_under p.key ps)
    (subst (λ b. length (Under p.key p ps b) ≤ 1) (itself p.key) (few p.key))))
    (distinct_few ps (λ q. fewer q (bytes_eq q p.key) (few q)))
  where
    fewer : (q : List ℕ) (b : Bool) → length (Under q p ps b) ≤ 1 → length (values_under q ps) ≤ 1
    fewer q true h = omega arith
    fewer q false h = h

few_distinct : (ps : List Pair) (q : List ℕ) → IsDistinct bytes_eq (keys_of ps) → length (values_under q ps) ≤ 1
few_distinct [] q d = omega arith
few_distinct (p ∷ ps) q d =
    elim (bytes_eq q p.key) as (λ b. (b ≡ true → q ≡ p.key) → length (Under q p ps b) ≤ 1) [
      | true ↦ λ same. let none : values_under q ps ≡ [] = ap (λ k. values_under k ps) (same refl)
          ∙ absent_all ps p.key (IsDistinct-head bytes_eq p.key (keys_of ps) d) in omega (arith, ap length none)
      | false ↦ λ same. few_distinct ps q (IsDistinct-tail bytes_eq p.key (keys_of ps) d)
    ] (equals q p.key)

one_of : (xs : List (List ℕ)) (o : Option (List ℕ)) → length xs ≤ 1 → slice_get xs 0 ≡ o → xs ≡ option_to_list o
one_of [] o few e = ap option_to_list e
one_of (x ∷ xs) o few e = ap (λ ys. x ∷ ys) (no_more xs few) ∙ ap option_to_list e

few_of : (o : Option (List ℕ)) → length (option_to_list o) ≤ 1
few_of None = omega arith
few_of (Some v) = omega arith

first_of_list : (o : Option (List ℕ)) → slice_get (option_to_list o) 0 ≡ o
first_of_list None = refl
first_of_list (Some v) = refl

module _ (home : List ℕ → ℕ) where
  -- each record of some lists, of which the first is bucket j's, stands in the list of its home
  abbrev IsHomeFrom : ℕ → List (List Pair) → Type 0
  IsHomeFrom j lists = (b p : ℕ) → p < length (list_at lists b) → home (key_at (list_at lists b) p) ≡ j + b

  later : (j : ℕ) (ps : List Pair) (lists : List (List Pair)) → IsHomeFrom j (ps ∷ lists) → IsHomeFrom (j + 1) lists
  later j ps lists h b p below = omega (arith, h (suc b) p below)

  not_first : (j : ℕ) (ps : List Pair) (lists : List (List Pair)) → IsHomeFrom j (ps ∷ lists) → (q : List ℕ)
      → home q ≢ j → values_under q ps ≡ []
  not_first j ps lists h q other = values_absent ps q (λ p below same. other (sym (ap home same) ∙ at (h 0 p below)))
    where
      at : {n : ℕ} → n ≡ j + 0 → n ≡ j
      at e = omega arith

  before : (j : ℕ) (lists : List (List Pair)) → IsHomeFrom j lists → (q : List ℕ) → home q < j
      → values_under q (all_of lists) ≡ []
  before j [] h q low = refl
  before j (ps ∷ lists) h q low =
      values_under-append q ps (all_of lists)
      ∙ ap (λ xs. xs ++ values_under q (all_of lists)) (not_first j ps lists h q (λ e. absurd (omega (arith, e))))
      ∙ before (j + 1) lists (later j ps lists h) q (omega arith)

  -- the values under a key are those in the list of its home
  at_home : (j : ℕ) (lists : List (List Pair)) → IsHomeFrom j lists → (q : List ℕ) (b : ℕ) → home q ≡ j + b
      → values_under q (all_of lists) ≡ values_under q (list_at lists b)
  at_home j [] h q b is = refl
  at_home j (ps ∷ lists) h q zero is =
      values_under-append q ps (all_of lists)
      ∙ ap (λ xs. values_under q ps ++ xs) (before (j + 1) lists (later j ps lists h) q (omega arith))
      ∙ append-nil (values_under q ps)
  at_home j (ps ∷ lists) h q (suc b) is =
      values_under-append q ps (all_of lists)
      ∙ ap (λ xs. xs ++ values_under q (all_of lists)) (not_first j ps lists h q (λ e. absurd (omega (arith, e))))
      ∙ at_home (j + 1) lists (later j ps lists h) q b (omega arith)

nothing_in : (ps : List Pair) → (0 < length ps → ⊥) → ps ≡ []
nothing_in [] h = refl
nothing_in (p ∷ ps) h = absurd (h (omega arith))

equal_true : (m n : ℕ) → m ≡ n → nat_eq m n ≡ true
equal_true m n e = grind (arith, nat_tests)

module _ (initial size : ℕ) (m : Records) (lists : List (List Pair))
    (within : (c : ℕ) → address initial size c < size) where
  abbrev Home : List ℕ → ℕ
  Home key = address initial size (code_of key)

  from_zero : EachPlace (IsHome initial size) lists → IsHomeFrom Home 0 lists
  from_zero home b p below = omega (arith, home b p below)

  -- where each key stands as in the map, and at home, the records are placed
  pub placed : ((q : List ℕ) → StandsAs m lists q) → EachPlace (IsHome initial size) lists
      → ArePlaced initial size m lists
  placed stands home = record {
    each = λ b below. same_records _ _ (λ q.
        get_first (list_at lists b) q
        ∙ chosen b q (nat_eq (Home q) b) refl
        ∙ sym (get-retained m (λ key. nat_eq (Home key) b) q));
    beyond = λ b past. nothing_in (list_at lists b)
        (λ some. absurd (omega (arith, home b 0 some, within (code_of (key_at (list_at lists b) 0)))));
    distinct = distinct_few (all_of lists)
        (λ q. subst (λ (xs : List (List ℕ)). length xs ≤ 1) (sym (stands q)) (few_of (get m q)));
  }
    where
      chosen : (b : ℕ) (q : List ℕ) (t : Bool) → nat_eq (Home q) b ≡ t
          → slice_get (values_under q (list_at lists b)) 0 ≡ cond t (get m q) None
      chosen b q true e =
          ap (λ (xs : List (List ℕ)). slice_get xs 0)
          (sym (at_home Home 0 lists (from_zero home) q b (omega (arith, exact_unsigned_eq (Home q) b e)))
          ∙ stands q)
          ∙ first_of_list (get m q)
      chosen b q false e = ap (λ (xs : List (List ℕ)). slice_get xs 0)
          (values_absent (list_at lists b) q (λ p below same.
          let other : Home q ≡ b = sym (ap Home same) ∙ home b p below in
          false≢true (sym e ∙ equal_true (Home q) b other)))

  -- and the other way round: each bucket has just the pairs of its address,
  abbrev Filled : Type 0
  Filled = (b : ℕ) → b < size → map_of (list_at lists b) ≡ retain_keys m (λ key. nat_eq (Home key) b)

  abbrev Shut : Type 0
  Shut = (b : ℕ) → size ≤ b → list_at lists b ≡ []

  filled_home : Filled → Shut → EachPlace (IsHome initial size) lists
  filled_home each beyond b p below = ⊎_elim
      (λ (inside : b < size).
      let key = key_at (list_at lists b) p in
      let some : IsSome (cond (nat_eq (Home key) b) (get m key) None) =
      subst IsSome (ap (λ (r : Records). get r key) (each b inside)
      ∙ get-retained m (λ key. nat_eq (Home key) b) key) (values_there (list_at lists b) p below) in
      exact_unsigned_eq (Home key) b (tested (nat_eq (Home key) b) (get m key) some))
      (λ (past : size ≤ b). absurd (omega (arith, below, ap length (beyond b past))))
      (cases_lt b size)
    where
      tested : (t : Bool) (o : Option (List ℕ)) → IsSome (cond t o None) → t ≡ true
      tested true o some = refl
      tested false o some = absurd (false≢true some)

  -- where the records of a map are placed, each stands in the bucket of its address
  pub placed_home : ArePlaced initial size m lists → EachPlace (IsHome initial size) lists
  placed_home h = filled_home h.each h.beyond

  -- so no key stands twice, where none does in one bucket
  pub filled_placed : Filled → Shut → ((b : ℕ) → IsDistinct bytes_eq (keys_of (list_at lists b)))
      → ArePlaced initial size m lists
  filled_placed each beyond own = record {
    each = each;
    beyond = beyond;
    distinct = distinct_few (all_of lists) (λ q.
        subst (λ (xs : List (List ℕ)). length xs ≤ 1)
        (sym (at_home Home 0 lists (from_zero (filled_home each beyond)) q (Home q) (omega arith)))
        (few_distinct (list_at lists (Home q)) q (own (Home q))));
  }

  -- where the records of a map are placed, each key stands in the lists just as in the map
  pub placed_stands : ArePlaced initial size m lists → (q : List ℕ) → StandsAs m lists q
  placed_stands h q =
      one_of (values_under q (all_of lists)) (get m q) (few_distinct (all_of lists) q h.distinct)
      (ap (λ (xs : List (List ℕ)). slice_get xs 0)
      (at_home Home 0 lists (from_zero (placed_home h)) q (Home q) (omega arith))
      ∙ sym (get_first (list_at lists (Home q)) q)
      ∙ ap (λ (r : Records). get r q) (h.each (Home q) (within (code_of q)))
      ∙ get-retained m (λ key. nat_eq (Home key) (Home q)) q
      ∙ ap (λ t. cond t (get m q) None) (equal_true (Home q) (Home q) refl))
