-- What the map of a list of records has at a key, and after a change to the list.
use Rattle.std.proofs.Common.{◌≡◌, ℕ, suc, nat_lt, one-add, ◌+◌, ◌<◌, Bool, true, false, cond, not, List, [], ◌∷◌, ◌++◌}
use Rattle.std.proofs.Common.{map, length, get_or, Option, Some, None, is_some, refl, sym, ap, subst, ◌∙◌, arith}
use Rattle.std.specs.Ordering.{nat_cmp, eq_by_cmp}
use Rattle.std.specs.Cmp.Lexicographic.{slice_cmp, nat_list_cmp_total, nat_list_eq_equiv, texts_ties}
use Rattle.std.specs.Str.{bytes_eq}
use Rattle.std.specs.Map.{keys_of as entry_keys, lookup, set_value}
use Rattle.std.specs.List.{IsDistinct, AllByRecursion, filter, swap_remove, position_or_len}
use Rattle.std.specs.List.Sorted.{IsPermutation}
use Rattle.std.specs.Option.{MatchOption}
use Rattle.std.specs.FinMap.{get, insert, remove, empty, retain_keys, from_entries, find, get-from_entries, get-insert}
use Rattle.std.specs.FinMap.{get-remove, get-retain_keys, same_map, from_entries_push, IsAntisymmetric}
use Rattle.std.specs.FinMap.{slice_cmp-IsAntisymmetric, nat_cmp-IsAntisymmetric}
use Rattle.std.proofs.lemmas.Bool.Decides.{nat_tests}
use Rattle.std.proofs.lemmas.Grind.{elements}
use Rattle.std.proofs.lemmas.Slice.Eq.{bytes_eq-Decides}
use Rattle.std.proofs.lemmas.Map.{lookup-set_value}
use Rattle.std.proofs.lemmas.Map.Views.{Contains-from_lookup, lookup-from_Contains}
use Rattle.std.proofs.lemmas.Map.Keys.{IsDistinct-IsPermutation, IsDistinct-head}
use Rattle.std.proofs.lemmas.List.Sorted.{IsPermutation-map, IsPermutation-sym, IsPermutation-swap_remove}
use Rattle.std.proofs.lemmas.List.Sorted.{Contains-permutation}
use Rattle.std.proofs.lemmas.List.Quantifiers.{position-Some}
use Rattle.std.proofs.lemmas.List.{map-append}
use Rattle.lh_page.specs.declared.pair.Pair.{Pair}
use Rattle.lh_page.specs.Records.{keys_of, place_of, no_pair, with_value}
use Rattle.lh_bucket.specs.PlainMap.{Records}
use Rattle.lh_bucket.specs.Records.{entry_of, map_of}

abbrev pub Entries : Type 0
Entries = List (List ℕ × List ℕ)

-- no key stands twice among entries, and among records
abbrev pub Apart : Entries → Type 0
Apart es = IsDistinct bytes_eq (entry_keys es)

abbrev pub Distinct : List Pair → Type 0
Distinct ps = IsDistinct bytes_eq (keys_of ps)

-- keys that compare as equal are the same
pub exact : IsAntisymmetric (slice_cmp nat_cmp)
exact = slice_cmp-IsAntisymmetric nat_cmp-IsAntisymmetric

-- keys that the test of their bytes calls equal are the same
pub equals : (x y : List ℕ) → bytes_eq x y ≡ true → x ≡ y
equals x y e = (bytes_eq-Decides x y).0 e

-- two maps that answer alike at each key are one
pub same_records : (m n : Records) → ((q : List ℕ) → get m q ≡ get n q) → m ≡ n
same_records m n h = same_map nat_list_cmp_total exact m n h

find_lookup : (q : List ℕ) (es : Entries) → find (slice_cmp nat_cmp) q es ≡ lookup (bytes_eq q) es
find_lookup q [] = refl
find_lookup q (e ∷ es) =
    ap (λ b. cond b (Some e.1) (find (slice_cmp nat_cmp) q es)) (sym (texts_ties q e.0))
    ∙ ap (cond (bytes_eq q e.0) (Some e.1)) (find_lookup q es)

get_made : (es : Entries) (q : List ℕ) → get (from_entries {R = slice_cmp nat_cmp} es) q ≡ lookup (bytes_eq q) es
get_made es q = get-from_entries nat_list_cmp_total es q ∙ find_lookup q es

-- what the map of some records has at a key
pub get-map_of : (ps : List Pair) (q : List ℕ) → get (map_of ps) q ≡ lookup (bytes_eq q) (map entry_of ps)
unfolding map_of
get-map_of ps q = get_made (map entry_of ps) q

-- no records make the empty map
pub map_of-none : map_of [] ≡ empty
unfolding map_of
map_of-none = refl

-- records have the same keys as the entries that they make
pub entry_keys-map : (ps : List Pair) → entry_keys (map entry_of ps) ≡ keys_of ps
entry_keys-map [] = refl
entry_keys-map (p ∷ ps) = ap (λ ks. p.key ∷ ks) (entry_keys-map ps)

-- where no key stands twice among records, none does among the entries that they make
pub apart_from_distinct : (ps : List Pair) → Distinct ps → Apart (map entry_of ps)
apart_from_distinct ps d = subst (IsDistinct bytes_eq) (sym (entry_keys-map ps)) d

alike : {X : Type 0} (a b : Option X) → ((v : X) → a ≡ Some v → b ≡ Some v) → ((v : X) → b ≡ Some v → a ≡ Some v) →
    a ≡ b
alike None None f g = refl
alike None (Some v) f g = g v refl
alike (Some v) b f g = sym (f v refl)

apart_permuted : (es fs : Entries) → IsPermutation es fs → Apart es → Apart fs
apart_permuted es fs p d =
    IsDistinct-IsPermutation bytes_eq nat_list_eq_equiv.symm _ _ (IsPermutation-map (λ e. e.0) es fs p) d

-- the order of entries does not matter where keys are distinct
lookup_permuted : (q : List ℕ) (es fs : Entries) → IsPermutation es fs → IsPermutation fs es → Apart es →
    lookup (bytes_eq q) es ≡ lookup (bytes_eq q) fs
lookup_permuted q es fs p r d =
    alike (lookup (bytes_eq q) es) (lookup (bytes_eq q) fs)
    (λ v e.
    lookup-from_Contains nat_list_eq_equiv q v fs (apart_permuted es fs p d)
    (Contains-permutation es fs (q, v) p (Contains-from_lookup equals q v es e)))
    (λ v e.
    lookup-from_Contains nat_list_eq_equiv q v es d
    (Contains-permutation fs es (q, v) r (Contains-from_lookup equals q v fs e)))

-- nothing is found under a key that no entry has
pub gone : (k : List ℕ) (es : Entries) → AllByRecursion (λ y. bytes_eq k y ≡ false) (entry_keys es) →
    lookup (bytes_eq k) es ≡ None
gone k [] h = refl
gone k (e ∷ es) h = ap (λ b. cond b (Some e.1) (lookup (bytes_eq k) es)) h.0 ∙ gone k es h.1

at_key : (q k : List ℕ) (a b : Option (List ℕ)) (v : List ℕ) → (bytes_eq q k ≡ true → a ≡ None) →
    b ≡ cond (bytes_eq q k) (Some v) a → a ≡ cond (eq_by_cmp (slice_cmp nat_cmp) q k) None b
at_key q k a b v none e =
    subst (λ t. a ≡ cond t None b) (texts_ties q k)
    (elim (bytes_eq q k) as (λ t. (t ≡ true → a ≡ None) → b ≡ cond t (Some v) a → a ≡ cond t None b) [
      | true ↦ λ n f. n refl
      | false ↦ λ n f. sym f
    ] none e)

-- an entry less: the rest of a list of which e came first, in some order
without : (es fs : Entries) (e : List ℕ × List ℕ) → IsPermutation es (e ∷ fs) → Apart es →
    from_entries {R = slice_cmp nat_cmp} fs ≡ remove (from_entries es) e.0
without es fs e p d =
    let d' : Apart (e ∷ fs) = apart_permuted es (e ∷ fs) p d in
    let none : lookup (bytes_eq e.0) fs ≡ None = gone e.0 fs (IsDistinct-head bytes_eq e.0 (entry_keys fs) d') in
    same_records _ _ (λ q.
    get_made fs q
    ∙ at_key q e.0 (lookup (bytes_eq q) fs) (lookup (bytes_eq q) es) e.1
    (λ h. subst (λ x. lookup (bytes_eq x) fs ≡ None) (sym (equals q e.0 h)) none)
    (lookup_permuted q es (e ∷ fs) p (IsPermutation-sym es (e ∷ fs) p) d)
    ∙ sym
    (get-remove nat_list_cmp_total (from_entries es) e.0 q
    ∙ ap (cond (eq_by_cmp (slice_cmp nat_cmp) q e.0) None) (get_made es q)))

-- the last record moved into the hole of one
pub map_of-swap_remove : (ps : List Pair) (i : ℕ) (p : Pair) → i < length ps → p ≡ get_or ps i p → Distinct ps →
    map_of (swap_remove ps i p) ≡ remove (map_of ps) p.key
unfolding map_of
map_of-swap_remove ps i p h e d =
    without (map entry_of ps) (map entry_of (swap_remove ps i p)) (entry_of p)
    (IsPermutation-map entry_of ps _ (IsPermutation-swap_remove ps i p h e)) (apart_from_distinct ps d)

-- one record more, whose key is new
pub map_of-push : (ps : List Pair) (p : Pair) → get (map_of ps) p.key ≡ None →
    map_of (ps ++ p ∷ []) ≡ insert (map_of ps) p.key p.value
unfolding map_of
map_of-push ps p h =
    ap from_entries (map-append entry_of ps (p ∷ []))
    ∙ from_entries_push nat_list_cmp_total exact (map entry_of ps) p.key p.value
    (find_lookup p.key (map entry_of ps) ∙ sym (get_made (map entry_of ps) p.key) ∙ h)

same_both : {X : Type 0} (b : Bool) → ◌≡◌ {A = Option X} None (cond b None None)
same_both true = refl
same_both false = refl

kept_or_not : (fp fq e : Bool) → (e ≡ true → fq ≡ fp) →
    (v o : Option (List ℕ)) (p : Pair) (rest : List Pair) (q : List ℕ) → v ≡ Some p.value →
    lookup (bytes_eq q) (map entry_of rest) ≡ cond fq o None → bytes_eq q p.key ≡ e →
    lookup (bytes_eq q) (map entry_of (cond fp (p ∷ rest) rest)) ≡ cond fq (cond e v o) None
kept_or_not true fq true same v o p rest q is h t = rw t (sym is ∙ ap (λ b. cond b v None) (sym (same refl)))
kept_or_not true fq false same v o p rest q is h t = rw t h
kept_or_not false fq true same v o p rest q is h t = h ∙ rw (same refl) refl
kept_or_not false fq false same v o p rest q is h t = h

lookup_filter : (f : List ℕ → Bool) (q : List ℕ) (ps : List Pair) →
    lookup (bytes_eq q) (map entry_of (filter (λ p. f p.key) ps)) ≡
    cond (f q) (lookup (bytes_eq q) (map entry_of ps)) None
lookup_filter f q [] = same_both (f q)
lookup_filter f q (p ∷ ps) =
    kept_or_not (f p.key) (f q) (bytes_eq q p.key) (λ h. ap f (equals q p.key h)) (Some p.value)
    (lookup (bytes_eq q) (map entry_of ps)) p (filter (λ p. f p.key) ps) q refl (lookup_filter f q ps) refl

-- what a map has at a key, of the keys that pass a test
pub get-retained : (m : Records) (f : List ℕ → Bool) (q : List ℕ) → get (retain_keys m f) q ≡ cond (f q) (get m q) None
get-retained m f q = get-retain_keys m f q (λ x h. ap f (sym (exact q x h)))

-- the records whose keys pass a test
pub map_of-filter : (f : List ℕ → Bool) (ps : List Pair) → map_of (filter (λ p. f p.key) ps) ≡ retain_keys (map_of ps) f
map_of-filter f ps = same_records _ _ (λ q.
    get-map_of (filter (λ p. f p.key) ps) q ∙ lookup_filter f q ps
    ∙ sym (get-retained (map_of ps) f q ∙ ap (λ o. cond (f q) o None) (get-map_of ps q)))

less_suc : (n m : ℕ) → nat_lt n m ≡ nat_lt (suc n) (suc m)
less_suc n m = grind (arith, nat_tests)

less_one : (m : ℕ) → true ≡ nat_lt 0 (suc m)
less_one m = grind (arith, nat_tests)

one_on : (b : Bool) (n m : ℕ) (p d : Pair) (ps : List Pair) →
    cond b (Some p.value) (cond (nat_lt n m) (Some (get_or ps n d).value) None) ≡
    cond (nat_lt (cond (not b) (1 + n) 0) (suc m)) (Some (get_or (p ∷ ps) (cond (not b) (1 + n) 0) d).value) None
one_on true n m p d ps = ap (λ t. cond t (Some p.value) None) (less_one m)
one_on false n m p d ps = rw one-add (ap (λ t. cond t (Some (get_or ps n d).value) None) (less_suc n m))

lookup_at : (ps : List Pair) (k : List ℕ) (d : Pair) →
    lookup (bytes_eq k) (map entry_of ps) ≡
    cond (nat_lt (position_or_len (λ p. bytes_eq p.key k) ps) (length ps))
    (Some (get_or ps (position_or_len (λ p. bytes_eq p.key k) ps) d).value) None
lookup_at [] k d = refl
lookup_at (p ∷ ps) k d =
    ap (cond (bytes_eq k p.key) (Some p.value)) (lookup_at ps k d)
    ∙ ap
    (λ b.
    cond b (Some p.value)
    (cond (nat_lt (position_or_len (λ p. bytes_eq p.key k) ps) (length ps))
    (Some (get_or ps (position_or_len (λ p. bytes_eq p.key k) ps) d).value) None))
    (nat_list_eq_equiv.symm k p.key)
    ∙ one_on (bytes_eq p.key k) (position_or_len (λ p. bytes_eq p.key k) ps) (length ps) p d ps

-- the place of a key, and what the map has there
abbrev pub StandsAt : List Pair → List ℕ → Option ℕ → Type 0
StandsAt ps k o =
    MatchOption o (get (map_of ps) k ≡ None)
    (λ i. (i < length ps) × ((get_or ps i no_pair).key ≡ k) × (get (map_of ps) k ≡ Some (get_or ps i no_pair).value))

by_test : (ps : List Pair) (k : List ℕ) (n : ℕ) (b : Bool) →
    get (map_of ps) k ≡ cond b (Some (get_or ps n no_pair).value) None →
    (b ≡ true → (n < length ps) × ((get_or ps n no_pair).key ≡ k)) → StandsAt ps k (cond b (Some n) None)
by_test ps k n true e h = ((h refl).0, (h refl).1, e)
by_test ps k n false e h = e

-- the place found for a key has its record, with the map's value; where none is found the map has none
pub stands : (ps : List Pair) (k : List ℕ) → StandsAt ps k (place_of ps k)
unfolding place_of
stands ps k =
    let t : Pair → Bool = λ p. bytes_eq p.key k in
    by_test ps k (position_or_len t ps) (nat_lt (position_or_len t ps) (length ps))
    (get-map_of ps k ∙ lookup_at ps k no_pair)
    (λ h.
    let s =
    position-Some t ps (position_or_len t ps) no_pair (ap (λ b. cond b (Some (position_or_len t ps)) None) h) in
    (s.0, equals _ _ s.1))

some_test : (b : Bool) (n i : ℕ) → Some i ≡ cond b (Some n) None → i ≡ n
some_test true n i e = cc
some_test false n i e = cc

first_place : (ps : List Pair) (k : List ℕ) (i : ℕ) → Some i ≡ place_of ps k →
    i ≡ position_or_len (λ p. bytes_eq p.key k) ps
unfolding place_of
first_place ps k i e =
    some_test (nat_lt (position_or_len (λ p. bytes_eq p.key k) ps) (length ps))
    (position_or_len (λ p. bytes_eq p.key k) ps) i e

one_set : (b : Bool) (n : ℕ) (p : Pair) (ps : List Pair) (v : List ℕ) (es : Entries) →
    map entry_of (with_value ps n v) ≡ es →
    map entry_of (with_value (p ∷ ps) (cond (not b) (1 + n) 0) v) ≡
    cond b ((p.key, v) ∷ map entry_of ps) (entry_of p ∷ es)
one_set true n p ps v es h = refl
one_set false n p ps v es h = rw one-add (ap (λ fs. entry_of p ∷ fs) h)

set_first : (ps : List Pair) (k v : List ℕ) →
    map entry_of (with_value ps (position_or_len (λ p. bytes_eq p.key k) ps) v) ≡
    set_value (bytes_eq k) (map entry_of ps) v
set_first [] k v = refl
set_first (p ∷ ps) k v =
    one_set (bytes_eq p.key k) (position_or_len (λ p. bytes_eq p.key k) ps) p ps v
    (set_value (bytes_eq k) (map entry_of ps) v) (set_first ps k v)
    ∙ ap (λ b. cond b ((p.key, v) ∷ map entry_of ps) (entry_of p ∷ set_value (bytes_eq k) (map entry_of ps) v))
    (nat_list_eq_equiv.symm p.key k)

one_key : (k x y : List ℕ) → bytes_eq k x ≡ true → bytes_eq k y ≡ bytes_eq x y
one_key k x y h = ap (λ z. bytes_eq z y) (equals k x h)

-- another value in the record of a key
pub map_of-with_value : (ps : List Pair) (i : ℕ) (k v : List ℕ) → Some i ≡ place_of ps k →
    is_some (get (map_of ps) k) ≡ true → map_of (with_value ps i v) ≡ insert (map_of ps) k v
map_of-with_value ps i k v first there = same_records _ _ (λ q.
    get-map_of (with_value ps i v) q
    ∙ ap (λ n. lookup (bytes_eq q) (map entry_of (with_value ps n v))) (first_place ps k i first)
    ∙ ap (lookup (bytes_eq q)) (set_first ps k v)
    ∙ lookup-set_value nat_list_eq_equiv (bytes_eq k) (one_key k) q v (map entry_of ps)
    (ap is_some (sym (get-map_of ps k)) ∙ there)
    ∙ ap (λ b. cond b (Some v) (lookup (bytes_eq q) (map entry_of ps))) (nat_list_eq_equiv.symm k q ∙ texts_ties q k)
    ∙ sym
    (get-insert nat_list_cmp_total (map_of ps) k v q
    ∙ ap (cond (eq_by_cmp (slice_cmp nat_cmp) q k) (Some v)) (get-map_of ps q)))

-- a record within a list is the same whatever is read past its end
pub get_or-any : (ps : List Pair) (i : ℕ) (d : Pair) → i < length ps → get_or ps i d ≡ get_or ps i (get_or ps i d)
get_or-any ps i d h = grind (arith, elements)
