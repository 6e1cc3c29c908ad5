-- What a map of records has, by the values that the records have under a key
use Rattle.std.proofs.Common.{◌≡◌, ◌≢◌, ℕ, Bool, true, false, cond, List, [], ◌∷◌, ◌++◌, map, Option, Some, None}
use Rattle.std.proofs.Common.{is_some, refl, sym, ap, subst, ◌∙◌, append-nil}
use Rattle.std.specs.declared.cmp.Ordering.TheVariants.{Less, Equal, Greater}
use Rattle.std.specs.Ordering.{nat_cmp, eq_by_cmp, is_eq, ordering_reverse}
use Rattle.std.specs.Cmp.Lexicographic.{slice_cmp, nat_list_cmp_total, texts_ties}
use Rattle.std.specs.Str.{bytes_eq}
use Rattle.std.specs.List.{filter, slice_get}
use Rattle.std.specs.FinMap.{get, insert, remove, empty, retain_keys, get-retain_keys, get-empty, get-insert}
use Rattle.std.specs.FinMap.{get-remove, same_map, from_entries, IsAntisymmetric, slice_cmp-IsAntisymmetric}
use Rattle.std.specs.FinMap.{nat_cmp-IsAntisymmetric}
use Rattle.std.proofs.lemmas.Bool.{false_from_ne_true, false≢true}
use Rattle.std.proofs.lemmas.List.{map-append}
use Rattle.std.proofs.lemmas.List.Elements.{filter-append}
use Rattle.std.proofs.lemmas.Slice.Eq.{bytes_eq-Decides}
use Rattle.lh_page.specs.declared.pair.Pair.{Pair}
use Rattle.lh_bucket.specs.declared.call.Call.TheVariants.{Insert, Delete}
use Rattle.lh_bucket.specs.PlainMap.{Records, after, outcome}
use Rattle.lh_bucket.specs.Records.{entry_of, map_of}
use Rattle.lh_settling.specs.Contents.{IsBefore, values_under}
use Rattle.lh_settling.specs.Replay.{calls_inserting}

-- lists of bytes that the test calls equal are the same
pub equals : (x y : List ℕ) → bytes_eq x y ≡ true → x ≡ y
equals x y e = (bytes_eq-Decides x y).0 e

-- the test calls each list of bytes equal to itself
pub itself : (x : List ℕ) → bytes_eq x x ≡ true
itself x = (bytes_eq-Decides x x).1 refl

-- the test tells apart lists of bytes that differ
pub apart : (x y : List ℕ) → x ≢ y → bytes_eq x y ≡ false
apart x y h = false_from_ne_true (bytes_eq x y) (λ e. h (equals x y e))

-- a key that comes before another is another key
pub before-apart : (x y : List ℕ) → IsBefore x y → bytes_eq x y ≡ false
before-apart x y h = texts_ties x y ∙ ap is_eq h

-- keys that compare as equal are the same
pub exact : IsAntisymmetric (slice_cmp nat_cmp)
exact = slice_cmp-IsAntisymmetric nat_cmp-IsAntisymmetric

-- two maps that answer alike at each key are one
pub same_records : (m n : Records) → ((q : List ℕ) → get m q ≡ get n q) → m ≡ n
same_records m n h = same_map nat_list_cmp_total exact m n h

-- the map of no records has nothing under any key
pub get-map_of-nil : (q : List ℕ) → get (map_of []) q ≡ None
unfolding map_of
get-map_of-nil q = get-empty (slice_cmp nat_cmp) q

-- a map of records has the first one's value under its key, and under others what the rest make
pub get-map_of-cons : (p : Pair) (ps : List Pair) (q : List ℕ)
    → get (map_of (p ∷ ps)) q ≡ cond (bytes_eq q p.key) (Some p.value) (get (map_of ps) q)
unfolding map_of
get-map_of-cons p ps q =
    get-insert nat_list_cmp_total (from_entries (map entry_of ps)) p.key p.value q
    ∙ ap (λ b. cond b (Some p.value) (get (map_of ps) q)) (sym (texts_ties q p.key))

-- a map of records has the first value under a key
pub get_first : (ps : List Pair) (q : List ℕ) → get (map_of ps) q ≡ slice_get (values_under q ps) 0
get_first [] q = get-map_of-nil q
get_first (p ∷ ps) q =
    get-map_of-cons p ps q
    ∙ elim (bytes_eq q p.key) as (λ b.
    cond b (Some p.value) (get (map_of ps) q) ≡ slice_get
    (map (λ (p : Pair). p.value) (cond b (p ∷ filter (λ p. bytes_eq q p.key) ps)
    (filter (λ p. bytes_eq q p.key) ps))) 0) [
      | true ↦ refl
      | false ↦ get_first ps q
    ]

-- the values under a key in two lists of records are those of the first and then of the second
pub values_under-append : (q : List ℕ) (ps qs : List Pair)
    → values_under q (ps ++ qs) ≡ values_under q ps ++ values_under q qs
values_under-append q ps qs =
    ap (map (λ (p : Pair). p.value)) (filter-append (λ p. bytes_eq q p.key) ps qs)
    ∙ map-append (λ (p : Pair). p.value) (filter (λ p. bytes_eq q p.key) ps) (filter (λ p. bytes_eq q p.key) qs)

-- one record more, with this key or with another
pub values_under-push : (q : List ℕ) (ps : List Pair) (p : Pair) → bytes_eq q p.key ≡ true
    → values_under q (ps ++ p ∷ []) ≡ values_under q ps ++ p.value ∷ []
values_under-push q ps p e =
    values_under-append q ps (p ∷ [])
    ∙ ap (λ b. values_under q ps ++ map (λ (p : Pair). p.value) (cond b (p ∷ []) [])) e

-- one record more with another key adds no value under this one
pub values_under-other : (q : List ℕ) (ps : List Pair) (p : Pair) → bytes_eq q p.key ≡ false
    → values_under q (ps ++ p ∷ []) ≡ values_under q ps
values_under-other q ps p e =
    values_under-append q ps (p ∷ [])
    ∙ ap (λ b. values_under q ps ++ map (λ (p : Pair). p.value) (cond b (p ∷ []) [])) e
    ∙ append-nil (values_under q ps)

deleted : (m : Records) (k q : List ℕ) (o : Option (List ℕ)) (b : Bool) → get m k ≡ o → (b ≡ true → q ≡ k)
    → eq_by_cmp (slice_cmp nat_cmp) q k ≡ b → get (after m (Delete k)) q ≡ cond b None (get m q)
deleted m k q o b there same is =
    elim o as (λ o. get m k ≡ o → get (after m (Delete k)) q ≡ cond b None (get m q)) [
      | None ↦ λ e. ap (λ (o : Option (List ℕ)). get (cond (is_some o) (remove m k) m) q) e
          ∙ elim b as (λ b. (b ≡ true → q ≡ k) → get m q ≡ cond b None (get m q)) [
            | true ↦ λ s. ap (get m) (s refl)
                ∙ e
            | false ↦ λ s. refl
          ] same
      | Some v ↦ λ e. ap (λ (o : Option (List ℕ)). get (cond (is_some o) (remove m k) m) q) e
          ∙ get-remove nat_list_cmp_total m k q ∙ ap (λ b. cond b None (get m q)) is
    ] there

-- what a map has after a key was deleted
pub get-deleted : (m : Records) (k q : List ℕ) → get (after m (Delete k)) q ≡ cond (bytes_eq q k) None (get m q)
get-deleted m k q = deleted m k q (get m k) (bytes_eq q k) refl (equals q k) (sym (texts_ties q k))

-- the first of two options that has a value
abbrev pub either_one : Option (List ℕ) → Option (List ℕ) → Option (List ℕ)
either_one (Some v) o = Some v
either_one None o = o

inserted : (m : Records) (k v q : List ℕ) (o : Option (List ℕ)) (b : Bool) → get m k ≡ o → (b ≡ true → q ≡ k)
    → eq_by_cmp (slice_cmp nat_cmp) q k ≡ b → get (after m (Insert k v)) q ≡ either_one (get m q) (cond b (Some v) None)
inserted m k v q None b e same is =
    ap (λ (o : Option (List ℕ)). get (cond (is_some o) m (insert m k v)) q) e
    ∙ get-insert nat_list_cmp_total m k v q ∙ ap (λ b. cond b (Some v) (get m q)) is
    ∙ elim b as (λ b. (b ≡ true → q ≡ k) → cond b (Some v) (get m q) ≡ either_one (get m q) (cond b (Some v) None)) [
      | true ↦ λ s. ap (λ o. either_one o (Some v)) (sym (ap (get m) (s refl) ∙ e))
      | false ↦ λ s. nothing (get m q)
    ] same
  where
    nothing : (o : Option (List ℕ)) → o ≡ either_one o None
    nothing (Some v) = refl
    nothing None = refl
inserted m k v q (Some w) b e same is =
    ap (λ (o : Option (List ℕ)). get (cond (is_some o) m (insert m k v)) q) e
    ∙ elim b as (λ b. (b ≡ true → q ≡ k) → get m q ≡ either_one (get m q) (cond b (Some v) None)) [
      | true ↦ λ s. let there : get m q ≡ Some w = ap (get m) (s refl) ∙ e in there
          ∙ ap (λ o. either_one o (Some v)) (sym there)
      | false ↦ λ s. nothing (get m q)
    ] same
  where
    nothing : (o : Option (List ℕ)) → o ≡ either_one o None
    nothing (Some v) = refl
    nothing None = refl

in_turn : (a : Option (List ℕ)) (b : Bool) (v : List ℕ) (c : Option (List ℕ))
    → either_one (either_one a (cond b (Some v) None)) c ≡ either_one a (cond b (Some v) c)
in_turn (Some w) b v c = refl
in_turn None true v c = refl
in_turn None false v c = refl

only_first : (a : Option (List ℕ)) → a ≡ either_one a None
only_first (Some v) = refl
only_first None = refl

get-inserts : (ps : List Pair) (m : Records) (q : List ℕ)
    → get (outcome m (calls_inserting ps)) q ≡ either_one (get m q) (get (map_of ps) q)
get-inserts [] m q = only_first (get m q) ∙ ap (either_one (get m q)) (sym (get-map_of-nil q))
get-inserts (p ∷ ps) m q =
    get-inserts ps (after m (Insert p.key p.value)) q
    ∙ ap (λ o. either_one o (get (map_of ps) q))
    (inserted m p.key p.value q (get m p.key) (bytes_eq q p.key) refl (equals q p.key) (sym (texts_ties q p.key)))
    ∙ in_turn (get m q) (bytes_eq q p.key) p.value (get (map_of ps) q)
    ∙ ap (either_one (get m q)) (sym (get-map_of-cons p ps q))

-- records that are inserted one after another make their map
pub outcome-inserts : (ps : List Pair) → outcome empty (calls_inserting ps) ≡ map_of ps
outcome-inserts ps = same_records _ _ (λ q.
    get-inserts ps empty q ∙ ap (λ o. either_one o (get (map_of ps) q)) (get-empty (slice_cmp nat_cmp) q))

-- a key that comes before the lesser of two comes before the greater
pub before_greater : (k s : List ℕ) → slice_cmp nat_cmp k s ≢ Less → (q : List ℕ) → IsBefore q s → IsBefore q k
before_greater k s h q b =
    elim (slice_cmp nat_cmp k s) as (λ r. slice_cmp nat_cmp k s ≡ r → IsBefore q k) [
      | Less ↦ λ e. absurd (h e)
      | Equal ↦ λ e. subst (IsBefore q) (sym (exact k s e)) b
      | Greater ↦ λ e. nat_list_cmp_total.trans q s k b (nat_list_cmp_total.antisymm s k ∙ ap ordering_reverse e)
    ] refl

-- no key comes before itself
pub never_before : (k : List ℕ) → IsBefore k k → ⊥
never_before k b = false≢true (sym (before-apart k k b) ∙ itself k)

-- what a map has at a key, of the keys that pass a test
pub get-retained : (m : Records) (f : List ℕ → Bool) (q : List ℕ) → get (retain_keys m f) q ≡ cond (f q) (get m q) None
get-retained m f q = get-retain_keys m f q (λ x h. ap f (sym (exact q x h)))
