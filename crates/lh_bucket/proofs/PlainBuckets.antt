-- The map of an ordered map's entries, and what holds of a bucket that is one.
use Rattle.std.proofs.Common.{◌≡◌, ℕ, Bor, Bool, true, false, cond, ◌&&◌, ◌||◌, List, [], ◌∷◌, ◌++◌, map, Option, Some}
use Rattle.std.proofs.Common.{None, is_some, refl, sym, ap, subst, ◌∙◌}
use Rattle.std.specs.Ordering.{nat_cmp, eq_by_cmp}
use Rattle.std.specs.Cmp.{eq_by_cmp_equiv}
use Rattle.std.specs.Cmp.Lexicographic.{slice_cmp, nat_list_cmp_total, texts_ties}
use Rattle.std.specs.Str.{bytes_eq}
use Rattle.std.specs.List.{IsDistinct, filter, list_any}
use Rattle.std.specs.List.Sorted.{IsStrictlySortedBy}
use Rattle.std.specs.BTreeMap.{is_at}
use Rattle.std.specs.Option.{IfNone}
use Rattle.std.specs.Map.Iter.{deref_pair}
use Rattle.std.specs.Map.{keys_of as entry_keys, lookup}
use Rattle.std.specs.FinMap.{get, insert, remove, retain_keys, get-insert, get-remove}
use Rattle.std.proofs.lemmas.Bool.{false≢true}
use Rattle.std.proofs.lemmas.List.Folds.{list_any-append}
use Rattle.std.proofs.lemmas.Map.Keys.{IsDistinct-from_sorted}
use Rattle.std.proofs.lemmas.Map.Made.{is_some-lookup}
use Rattle.lh_addr.specs.Limits.{IsInitial, IsCapacity}
use Rattle.lh_page.specs.Records.{keys_of}
use Rattle.lh_bucket.specs.Records.{entry_of, map_of}
use Rattle.lh_bucket.specs.Bucket.{Head, HasOwnKeys}
use Rattle.lh_bucket.specs.PlainBucket.{pairs_of_entries, IsInKeyOrder, IsPlain}
use Rattle.lh_bucket.proofs.MapOf.{equals, same_records, get-map_of, get-retained, map_of-filter}

abbrev Entries : Type 0
Entries = List (List ℕ × List ℕ)

-- the entries of a map, as records, have the same keys
pub keys_of-pairs_of_entries : (es : Entries) → keys_of (pairs_of_entries es) ≡ entry_keys es
keys_of-pairs_of_entries [] = refl
keys_of-pairs_of_entries (e ∷ es) = ap (λ ks. e.0 ∷ ks) (keys_of-pairs_of_entries es)

lookup-pairs_of_entries : (es : Entries) (q : List ℕ) →
    lookup (bytes_eq q) (map entry_of (pairs_of_entries es)) ≡ lookup (is_at (slice_cmp nat_cmp q)) es
lookup-pairs_of_entries [] q = refl
lookup-pairs_of_entries (e ∷ es) q =
    ap (λ b. cond b (Some e.1) (lookup (bytes_eq q) (map entry_of (pairs_of_entries es)))) (texts_ties q e.0)
    ∙ ap (cond (is_at (slice_cmp nat_cmp q) e.0) (Some e.1)) (lookup-pairs_of_entries es q)

-- what an ordered map has at a key
pub get-pairs_of_entries : (es : Entries) (q : List ℕ) →
    get (map_of (pairs_of_entries es)) q ≡ lookup (is_at (slice_cmp nat_cmp q)) es
get-pairs_of_entries es q = get-map_of (pairs_of_entries es) q ∙ lookup-pairs_of_entries es q

flipped : (q k : List ℕ) → is_at (slice_cmp nat_cmp k) q ≡ eq_by_cmp (slice_cmp nat_cmp) q k
flipped q k = (eq_by_cmp_equiv nat_list_cmp_total).symm k q

-- one entry more, or another value under its key
pub inserted : (es fs : Entries) (k v : List ℕ) →
    ((q : List ℕ) →
    lookup (is_at (slice_cmp nat_cmp q)) fs ≡
    cond (is_at (slice_cmp nat_cmp k) q) (Some v) (lookup (is_at (slice_cmp nat_cmp q)) es)) →
    map_of (pairs_of_entries fs) ≡ insert (map_of (pairs_of_entries es)) k v
inserted es fs k v h = same_records _ _ (λ q.
    get-pairs_of_entries fs q ∙ h q
    ∙ ap (λ b. cond b (Some v) (lookup (is_at (slice_cmp nat_cmp q)) es)) (flipped q k)
    ∙ sym
    (get-insert nat_list_cmp_total (map_of (pairs_of_entries es)) k v q
    ∙ ap (cond (eq_by_cmp (slice_cmp nat_cmp) q k) (Some v)) (get-pairs_of_entries es q)))

-- an entry less
pub removed : (es fs : Entries) (k : List ℕ) →
    ((q : List ℕ) →
    lookup (is_at (slice_cmp nat_cmp q)) fs ≡
    cond (is_at (slice_cmp nat_cmp k) q) None (lookup (is_at (slice_cmp nat_cmp q)) es)) →
    map_of (pairs_of_entries fs) ≡ remove (map_of (pairs_of_entries es)) k
removed es fs k h = same_records _ _ (λ q.
    get-pairs_of_entries fs q ∙ h q
    ∙ ap (λ b. cond b None (lookup (is_at (slice_cmp nat_cmp q)) es)) (flipped q k)
    ∙ sym
    (get-remove nat_list_cmp_total (map_of (pairs_of_entries es)) k q
    ∙ ap (cond (eq_by_cmp (slice_cmp nat_cmp) q k) None) (get-pairs_of_entries es q)))

-- the map has an entry less where one was taken out, and is as it was where none was
pub taken : (es fs : Entries) (k : List ℕ) (o : Option (List ℕ)) →
    ((q : List ℕ) →
    lookup (is_at (slice_cmp nat_cmp q)) fs ≡
    cond (is_at (slice_cmp nat_cmp k) q) None (lookup (is_at (slice_cmp nat_cmp q)) es)) → IfNone o (fs ≡ es) →
    map_of (pairs_of_entries fs) ≡
    cond (is_some o) (remove (map_of (pairs_of_entries es)) k) (map_of (pairs_of_entries es))
taken es fs k (Some v) h same = removed es fs k h
taken es fs k None h same = ap (λ es. map_of (pairs_of_entries es)) same

-- keys in order are distinct
distinct_sorted : (ks : List (List ℕ)) → IsStrictlySortedBy (slice_cmp nat_cmp) ks → IsDistinct bytes_eq ks
distinct_sorted ks h =
    let same : ◌≡◌ {A = List ℕ → List ℕ → Bool} bytes_eq (eq_by_cmp (slice_cmp nat_cmp)) = λ i x y. texts_ties x y i in
    subst (λ (e : List ℕ → List ℕ → Bool). IsDistinct e ks) (sym same) (IsDistinct-from_sorted (slice_cmp nat_cmp) ks h)

-- a bucket of an ordered map's entries
pub plain_made : (head : Head) (es : Entries) → IsInitial head.initial → IsCapacity head.capacity →
    IsStrictlySortedBy (slice_cmp nat_cmp) (entry_keys es) → HasOwnKeys head (pairs_of_entries es) head.level →
    IsPlain (record { head = head; pairs = pairs_of_entries es })
plain_made head es initial capacity ordered home =
    let sorted : IsInKeyOrder (pairs_of_entries es) =
    subst (IsStrictlySortedBy (slice_cmp nat_cmp)) (sym (keys_of-pairs_of_entries es)) ordered in
    record {
      kept =
          record {
            initial = initial;
            capacity = capacity;
            distinct = distinct_sorted (keys_of (pairs_of_entries es)) sorted;
            home = home;
          };
      sorted = sorted;
    }

-- the keys of entries rise strictly where their records are in the order of their keys
pub ordered_entries : (es : Entries) → IsInKeyOrder (pairs_of_entries es) →
    IsStrictlySortedBy (slice_cmp nat_cmp) (entry_keys es)
ordered_entries es h = subst (IsStrictlySortedBy (slice_cmp nat_cmp)) (keys_of-pairs_of_entries es) h

filter-pairs_of_entries : (f : List ℕ → Bool) (es : Entries) →
    pairs_of_entries (filter (λ e. f e.0) es) ≡ filter (λ p. f p.key) (pairs_of_entries es)
filter-pairs_of_entries f [] = refl
filter-pairs_of_entries f (e ∷ es) =
    elim (f e.0) as (λ b.
    pairs_of_entries (cond b (e ∷ filter (λ e. f e.0) es) (filter (λ e. f e.0) es)) ≡
    cond b (record { key = e.0; value = e.1 } ∷ filter (λ p. f p.key) (pairs_of_entries es))
    (filter (λ p. f p.key) (pairs_of_entries es))) [
      | true ↦ ap (λ ps. record { key = e.0; value = e.1 } ∷ ps) (filter-pairs_of_entries f es)
      | false ↦ filter-pairs_of_entries f es
    ]

-- the entries whose keys pass a test
pub map_of-kept : (f : List ℕ → Bool) (es fs : Entries) → fs ≡ filter (λ e. f e.0) es →
    map_of (pairs_of_entries fs) ≡ retain_keys (map_of (pairs_of_entries es)) f
map_of-kept f es fs is =
    ap (λ es. map_of (pairs_of_entries es)) is ∙ ap map_of (filter-pairs_of_entries f es)
    ∙ map_of-filter f (pairs_of_entries es)

-- a map that has, of the keys looked at so far, those that pass a test
abbrev pub HasOf : (List ℕ → Bool) → Entries → List (List ℕ) → Entries → Type 0
HasOf f es keys fs =
    (q : List ℕ) →
    lookup (is_at (slice_cmp nat_cmp q)) fs ≡
    cond (f q && list_any (is_at (slice_cmp nat_cmp q)) keys) (lookup (is_at (slice_cmp nat_cmp q)) es) None

at_new : (passes before t : Bool) (o m : Option (List ℕ)) (v : List ℕ) → (t ≡ true → (passes ≡ true) × (o ≡ Some v)) →
    m ≡ cond (passes && before) o None → cond t (Some v) m ≡ cond (passes && (before || (t || false))) o None
at_new true true true o m v h e = sym (h refl).1
at_new true false true o m v h e = sym (h refl).1
at_new false before true o m v h e = absurd (false≢true (h refl).0)
at_new passes true false o m v h e = e
at_new passes false false o m v h e = e

at_other : (passes before t : Bool) (o m : Option (List ℕ)) → (t ≡ true → passes ≡ false) →
    m ≡ cond (passes && before) o None → m ≡ cond (passes && (before || (t || false))) o None
at_other true before true o m h e = absurd (false≢true (sym (h refl)))
at_other false before true o m h e = e
at_other passes true false o m h e = e
at_other passes false false o m h e = e

one_more : (q k : List ℕ) (ks : List (List ℕ)) →
    list_any (is_at (slice_cmp nat_cmp q)) (ks ++ k ∷ []) ≡
    (list_any (is_at (slice_cmp nat_cmp q)) ks || (is_at (slice_cmp nat_cmp q) k || false))
one_more q k ks = list_any-append (is_at (slice_cmp nat_cmp q)) ks (k ∷ [])

same_key : (q k : List ℕ) → is_at (slice_cmp nat_cmp q) k ≡ true → q ≡ k
same_key q k h = equals q k (texts_ties q k ∙ h)

-- while no key was looked at, a map without entries has those that pass
pub has_none : (f : List ℕ → Bool) (es fs : Entries) → fs ≡ [] → HasOf f es [] fs
has_none f es fs is q =
    ap (lookup (is_at (slice_cmp nat_cmp q))) is ∙ nothing (f q) (lookup (is_at (slice_cmp nat_cmp q)) es)
  where
    nothing : (b : Bool) (o : Option (List ℕ)) → None ≡ cond (b && false) o None
    nothing true o = refl
    nothing false o = refl

-- a key that passes was added
pub has_more : (f : List ℕ → Bool) (es fs gs : Entries) (ks : List (List ℕ)) (k v : List ℕ) → f k ≡ true →
    lookup (is_at (slice_cmp nat_cmp k)) es ≡ Some v → HasOf f es ks fs →
    ((q : List ℕ) →
    lookup (is_at (slice_cmp nat_cmp q)) gs ≡
    cond (is_at (slice_cmp nat_cmp k) q) (Some v) (lookup (is_at (slice_cmp nat_cmp q)) fs)) →
    HasOf f es (ks ++ k ∷ []) gs
has_more f es fs gs ks k v passes there has added q =
    added q ∙ ap (λ b. cond b (Some v) (lookup (is_at (slice_cmp nat_cmp q)) fs)) (flipped q k)
    ∙ at_new (f q) (list_any (is_at (slice_cmp nat_cmp q)) ks) (is_at (slice_cmp nat_cmp q) k)
    (lookup (is_at (slice_cmp nat_cmp q)) es) (lookup (is_at (slice_cmp nat_cmp q)) fs) v
    (λ same. (
      ap f (same_key q k same) ∙ passes,
      ap (λ x. lookup (is_at (slice_cmp nat_cmp x)) es) (same_key q k same)
          ∙ there,
    )) (has q)
    ∙ ap (λ b. cond (f q && b) (lookup (is_at (slice_cmp nat_cmp q)) es) None) (sym (one_more q k ks))

-- a key that fails was passed over
pub has_same : (f : List ℕ → Bool) (es fs : Entries) (ks : List (List ℕ)) (k : List ℕ) → f k ≡ false →
    HasOf f es ks fs → HasOf f es (ks ++ k ∷ []) fs
has_same f es fs ks k fails has q =
    at_other (f q) (list_any (is_at (slice_cmp nat_cmp q)) ks) (is_at (slice_cmp nat_cmp q) k)
    (lookup (is_at (slice_cmp nat_cmp q)) es) (lookup (is_at (slice_cmp nat_cmp q)) fs)
    (λ same. ap f (same_key q k same) ∙ fails) (has q)
    ∙ ap (λ b. cond (f q && b) (lookup (is_at (slice_cmp nat_cmp q)) es) None) (sym (one_more q k ks))

at_end : (passes : Bool) (o : Option (List ℕ)) → cond (passes && is_some o) o None ≡ cond passes o None
at_end true None = refl
at_end true (Some v) = refl
at_end false o = refl

-- all keys were looked at
pub has_all : (f : List ℕ → Bool) (es fs : Entries) (ks : List (List ℕ)) → ks ≡ entry_keys es → HasOf f es ks fs →
    map_of (pairs_of_entries fs) ≡ retain_keys (map_of (pairs_of_entries es)) f
has_all f es fs ks all has = same_records _ _ (λ q.
    get-pairs_of_entries fs q ∙ has q
    ∙ ap (λ b. cond (f q && b) (lookup (is_at (slice_cmp nat_cmp q)) es) None)
    (ap (list_any (is_at (slice_cmp nat_cmp q))) all ∙ sym (is_some-lookup (is_at (slice_cmp nat_cmp q)) es))
    ∙ at_end (f q) (lookup (is_at (slice_cmp nat_cmp q)) es)
    ∙ sym (get-retained (map_of (pairs_of_entries es)) f q ∙ ap (λ o. cond (f q) o None) (get-pairs_of_entries es q)))

-- the keys that a loop over a map has seen
pub keys_shown : (xs : List (Bor (List ℕ) × Bor (List ℕ))) → map (λ e. e.0.now) xs ≡ entry_keys (map deref_pair xs)
keys_shown [] = refl
keys_shown (x ∷ xs) = ap (λ ks. x.0.now ∷ ks) (keys_shown xs)
