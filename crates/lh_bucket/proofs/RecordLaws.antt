-- What the map of some records has.
use Rattle.std.proofs.Common.{◌≡◌, ◌≢◌, ℕ, suc, ◌+◌, ◌<◌, true, false, cond, List, [], ◌∷◌, ◌++◌, map, length, get_or}
use Rattle.std.proofs.Common.{Option, Some, None, is_some, refl, sym, ap, subst, ◌∙◌, arith, add-one}
use Rattle.std.specs.Str.{bytes_eq}
use Rattle.std.specs.List.{AllByRecursion, Contains, list_any}
use Rattle.std.specs.Map.{lookup}
use Rattle.std.specs.Cmp.Lexicographic.{slice_cmp, nat_list_cmp_total, nat_list_eq_equiv}
use Rattle.std.specs.Ordering.{nat_cmp}
use Rattle.std.specs.FinMap.{get, len, insert, len-insert, len-empty}
use Rattle.std.proofs.lemmas.Bool.{false_from_ne_true}
use Rattle.std.proofs.lemmas.List.{length-map}
use Rattle.std.proofs.lemmas.List.Folds.{list_any_at}
use Rattle.std.proofs.lemmas.Map.Keys.{IsDistinct-head, IsDistinct-tail}
use Rattle.std.proofs.lemmas.Map.Made.{is_some-lookup}
use Rattle.std.proofs.lemmas.Map.Views.{Contains-from_lookup, lookup-from_Contains}
use Rattle.std.proofs.lemmas.Slice.Eq.{bytes_eq-Decides}
use Rattle.std.proofs.Math.ListN.{get_or-map}
use Rattle.lh_page.specs.declared.pair.Pair.{Pair}
use Rattle.lh_page.specs.Records.{keys_of, key_at, no_pair}
use Rattle.lh_bucket.specs.Records.{entry_of, map_of}
use Rattle.lh_bucket.specs.Laws.{KeyLaw, LookupLaw, CountLaw}
use Rattle.lh_bucket.proofs.MapOf.{Distinct, equals, get-map_of, map_of-none, entry_keys-map, apart_from_distinct, gone}

-- a record is what its key and value make it
record_is : (p : Pair) (key value : List ℕ) → entry_of p ≡ (key, value) →
    ◌≡◌ {A = Pair} p (record { key = key; value = value })
record_is p key value e i = record { key = (e i).0; value = (e i).1 }

found : (ps : List Pair) (key value : List ℕ) → get (map_of ps) key ≡ Some value →
    Contains ps (record { key = key; value = value })
found ps key value h =
    let p : Pair = record { key = key; value = value } in
    let there = Contains-from_lookup equals key value (map entry_of ps) (sym (get-map_of ps key) ∙ h) in
    let below : there.0 < length (map entry_of ps) = there.1 in (
      there.0,
      omega (arith, length-map ps entry_of),
      record_is (get_or ps there.0 p) key value (sym (get_or-map entry_of ps there.0 p) ∙ there.2),
    )

had : (ps : List Pair) (key value : List ℕ) → Distinct ps → Contains ps (record { key = key; value = value }) →
    get (map_of ps) key ≡ Some value
had ps key value d h =
    let p : Pair = record { key = key; value = value } in
    let below : h.0 < length ps = h.1 in
    get-map_of ps key
    ∙ lookup-from_Contains nat_list_eq_equiv key value (map entry_of ps) (apart_from_distinct ps d)
    (h.0, omega (arith, length-map ps entry_of), get_or-map entry_of ps h.0 p ∙ ap entry_of h.2)

-- where no key stands twice, the map of some records has just these
pub lookup_law : LookupLaw
lookup_law ps key value d = (found ps key value, had ps key value d)

new_key : (p : Pair) (ps : List Pair) → Distinct (p ∷ ps) → get (map_of ps) p.key ≡ None
new_key p ps d =
    get-map_of ps p.key
    ∙ gone p.key (map entry_of ps)
    (subst (AllByRecursion (λ y. bytes_eq p.key y ≡ false)) (sym (entry_keys-map ps))
    (IsDistinct-head bytes_eq p.key (keys_of ps) d))

-- one record more in front puts its value under its key in the map
pub map_of-cons : (p : Pair) (ps : List Pair) → map_of (p ∷ ps) ≡ insert (map_of ps) p.key p.value
unfolding map_of
map_of-cons p ps = refl

-- where no key stands twice, the map of some records has as many as there are
pub count_law : CountLaw
count_law [] d = ap len map_of-none ∙ len-empty (slice_cmp nat_cmp) (List ℕ)
count_law (p ∷ ps) d =
    ap len (map_of-cons p ps) ∙ len-insert nat_list_cmp_total (map_of ps) p.key p.value
    ∙ ap (λ (o : Option (List ℕ)). cond (is_some o) (len (map_of ps)) (len (map_of ps) + 1)) (new_key p ps d)
    ∙ ap (λ n. n + 1) (count_law ps (IsDistinct-tail bytes_eq p.key (keys_of ps) d)) ∙ add-one (length ps)

-- the map of some records has the key of each
pub key_law : KeyLaw
key_law ps place below =
    let key = key_at ps place in
    let within : place < length (keys_of ps) = omega (arith, length-map ps (λ (p : Pair). p.key)) in
    ap is_some (get-map_of ps key) ∙ is_some-lookup (bytes_eq key) (map entry_of ps)
    ∙ ap (list_any (bytes_eq key)) (entry_keys-map ps)
    ∙ list_any_at (bytes_eq key) (keys_of ps) place [] within
    (ap (bytes_eq key) (get_or-map (λ (p : Pair). p.key) ps place no_pair) ∙ (bytes_eq-Decides key key).1 refl)

-- what is looked for where no record has its key
pub lookup-absent : (ps : List Pair) (q : List ℕ) → ((p : ℕ) → p < length ps → key_at ps p ≢ q) →
    lookup (bytes_eq q) (map entry_of ps) ≡ None
lookup-absent [] q h = refl
lookup-absent (p ∷ ps) q h =
    ap (λ b. cond b (Some p.value) (lookup (bytes_eq q) (map entry_of ps)))
    (false_from_ne_true (bytes_eq q p.key) (λ same. h 0 (omega arith) (sym (equals q p.key same))))
    ∙ lookup-absent ps q (λ k below. h (suc k) (omega arith))

some_none : {X G : Type 0} {v : X} → Some v ≡ None → G
some_none e = cc

-- what is looked for in two lists of records
pub lookup-both : (ps qs : List Pair) (q : List ℕ) → lookup (bytes_eq q) (map entry_of ps) ≡ None →
    lookup (bytes_eq q) (map entry_of (ps ++ qs)) ≡ lookup (bytes_eq q) (map entry_of qs)
lookup-both [] qs q h = refl
lookup-both (p ∷ ps) qs q h =
    elim (bytes_eq q p.key) as (λ b. cond b (Some p.value) (lookup (bytes_eq q) (map entry_of ps)) ≡ None →
    cond b (Some p.value) (lookup (bytes_eq q) (map entry_of (ps ++ qs))) ≡
    lookup (bytes_eq q) (map entry_of qs)) [
      | true ↦ λ e. some_none e
      | false ↦ λ e. lookup-both ps qs q e
    ] h

-- a key that the second of two lists doesn't have is found in both as in the first
pub lookup-first : (ps qs : List Pair) (q : List ℕ) → lookup (bytes_eq q) (map entry_of qs) ≡ None →
    lookup (bytes_eq q) (map entry_of (ps ++ qs)) ≡ lookup (bytes_eq q) (map entry_of ps)
lookup-first [] qs q h = h
lookup-first (p ∷ ps) qs q h = ap (cond (bytes_eq q p.key) (Some p.value)) (lookup-first ps qs q h)
