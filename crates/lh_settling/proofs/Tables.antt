-- The map that the entries of a hash table stand for, and the least of its keys
use Rattle.std.proofs.Common.{◌≡◌, ℕ, Bool, true, false, cond, ◌||◌, List, [], ◌∷◌, ◌++◌, map, Option, Some, None}
use Rattle.std.proofs.Common.{is_some, refl, sym, ap, subst, ◌∙◌, ◌⊎◌, ⊎_elim}
use Rattle.std.specs.Ordering.{nat_cmp, eq_by_cmp}
use Rattle.std.specs.Cmp.Lexicographic.{slice_cmp, nat_list_cmp_total, nat_list_eq_equiv, texts_ties}
use Rattle.std.specs.Str.{bytes_eq}
use Rattle.std.specs.List.{list_any}
use Rattle.std.specs.Option.{IfNone, IfSome, IsSome}
use Rattle.std.specs.Map.{keys_of as entry_keys, lookup}
use Rattle.std.specs.FinMap.{get, insert, remove, find, get-insert, get-remove, get-from_entries}
use Rattle.std.proofs.lemmas.Bool.{false≢true}
use Rattle.std.proofs.lemmas.List.Folds.{list_any-append}
use Rattle.std.proofs.lemmas.Map.Made.{is_some-lookup}
use Rattle.lh_settling.specs.declared.plain_map.Name.{Name}
use Rattle.lh_settling.specs.Contents.{IsBefore}
use Rattle.lh_settling.specs.PlainMap.{map_of_entries}
use Rattle.lh_settling.proofs.Values.{itself, before-apart, same_records}

abbrev pub Entries : Type 0
Entries = List (Name × List ℕ)

-- whether a name has these bytes
abbrev pub is_named : List ℕ → Name → Bool
is_named q n = bytes_eq q n.0

find_lookup : (q : List ℕ) (es : Entries)
    → find (slice_cmp nat_cmp) q (map (λ e. (e.0.0, e.1)) es) ≡ lookup (is_named q) es
find_lookup q [] = refl
find_lookup q (e ∷ es) =
    ap (λ b. cond b (Some e.1) (find (slice_cmp nat_cmp) q (map (λ e. (e.0.0, e.1)) es))) (sym (texts_ties q e.0.0))
    ∙ ap (cond (is_named q e.0) (Some e.1)) (find_lookup q es)

-- what a table has at a key
pub get-map_of_entries : (es : Entries) (q : List ℕ) → get (map_of_entries es) q ≡ lookup (is_named q) es
get-map_of_entries es q = get-from_entries nat_list_cmp_total (map (λ e. (e.0.0, e.1)) es) q ∙ find_lookup q es

flipped : (q k : List ℕ) → bytes_eq k q ≡ eq_by_cmp (slice_cmp nat_cmp) q k
flipped q k = nat_list_eq_equiv.symm k q ∙ texts_ties q k

-- one entry more, or another value under its key
pub inserted : (es fs : Entries) (k v : List ℕ)
    → ((q : Name) → lookup (is_named q.0) fs ≡ cond (bytes_eq k q.0) (Some v) (lookup (is_named q.0) es))
    → map_of_entries fs ≡ insert (map_of_entries es) k v
inserted es fs k v h = same_records _ _ (λ q.
    get-map_of_entries fs q ∙ h (record { 0 = q })
    ∙ ap (λ b. cond b (Some v) (lookup (is_named q) es)) (flipped q k)
    ∙ sym (get-insert nat_list_cmp_total (map_of_entries es) k v q
    ∙ ap (cond (eq_by_cmp (slice_cmp nat_cmp) q k) (Some v)) (get-map_of_entries es q)))

removed : (es fs : Entries) (k : List ℕ)
    → ((q : Name) → lookup (is_named q.0) fs ≡ cond (bytes_eq k q.0) None (lookup (is_named q.0) es))
    → map_of_entries fs ≡ remove (map_of_entries es) k
removed es fs k h = same_records _ _ (λ q.
    get-map_of_entries fs q ∙ h (record { 0 = q })
    ∙ ap (λ b. cond b None (lookup (is_named q) es)) (flipped q k)
    ∙ sym (get-remove nat_list_cmp_total (map_of_entries es) k q
    ∙ ap (cond (eq_by_cmp (slice_cmp nat_cmp) q k) None) (get-map_of_entries es q)))

-- an entry less, or none
pub taken : (es fs : Entries) (k : List ℕ) (o : Option (List ℕ))
    → ((q : Name) → lookup (is_named q.0) fs ≡ cond (bytes_eq k q.0) None (lookup (is_named q.0) es))
    → IfNone o (fs ≡ es) → map_of_entries fs ≡ cond (is_some o) (remove (map_of_entries es) k) (map_of_entries es)
taken es fs k (Some v) h same = removed es fs k h
taken es fs k None h same = ap map_of_entries same

-- the least of some names, where there are any
abbrev pub IsLeast : List Name → Option (List ℕ) → Type 0
IsLeast ns None = ns ≡ []
IsLeast ns (Some k) = (list_any (is_named k) ns ≡ true)
    × ((q : List ℕ) → IsBefore q k → list_any (is_named q) ns ≡ false)

or_last : (a b : Bool) → b ≡ true → (a || (b || false)) ≡ true
or_last true b e = refl
or_last false true e = refl
or_last false false e = e

or_first : (a b : Bool) → a ≡ true → (a || (b || false)) ≡ true
or_first true b e = refl
or_first false b e = absurd (false≢true e)

neither : (a b : Bool) → a ≡ false → b ≡ false → (a || (b || false)) ≡ false
neither true b e f = e
neither false true e f = f
neither false false e f = refl

-- one name more
pub least_more : (ns : List Name) (o : Option (List ℕ)) (n : Name) (k : List ℕ) → IsLeast ns o
    → (o ≡ Some k) ⊎ (k ≡ n.0) → ((q : List ℕ) → IsBefore q k → IsBefore q n.0)
    → IfSome o (λ f. (q : List ℕ) → IsBefore q k → IsBefore q f) → IsLeast (ns ++ n ∷ []) (Some k)
least_more ns o n k least either second first = (
  list_any-append (is_named k) ns (n ∷ []) ∙ ⊎_elim
      (λ (old : o ≡ Some k). or_first (list_any (is_named k) ns) (is_named k n) (subst (IsLeast ns) old least).0)
      (λ (new : k ≡ n.0). or_last (list_any (is_named k) ns) (is_named k n)
      (ap (λ x. bytes_eq k x) (sym new) ∙ itself k)) either,
  λ q b. list_any-append (is_named q) ns (n ∷ [])
      ∙ neither (list_any (is_named q) ns) (is_named q n) (others o least first q b) (before-apart q n.0 (second q b)),
)
  where
    others : (o : Option (List ℕ)) → IsLeast ns o → IfSome o (λ f. (q : List ℕ) → IsBefore q k → IsBefore q f)
        → (q : List ℕ) → IsBefore q k → list_any (is_named q) ns ≡ false
    others None none under q b = ap (list_any (is_named q)) none
    others (Some f) least under q b = least.1 q (under q b)

is_some-get : (es : Entries) (q : List ℕ) → is_some (get (map_of_entries es) q) ≡ list_any (is_named q) (entry_keys es)
is_some-get es q = ap is_some (get-map_of_entries es q) ∙ is_some-lookup (is_named q) es

missing : (o : Option (List ℕ)) → is_some o ≡ false → o ≡ None
missing None e = refl
missing (Some v) e = absurd (false≢true (sym e))

-- the least of all keys of a table
pub least_none : (es : Entries) (ns : List Name) (o : Option (List ℕ)) → ns ≡ entry_keys es → IsLeast ns o
    → IfNone o ((q : List ℕ) → get (map_of_entries es) q ≡ None)
least_none es ns None all least =
    λ q. missing (get (map_of_entries es) q) (is_some-get es q ∙ ap (list_any (is_named q)) (sym all ∙ least))
least_none es ns (Some k) all least = tt

-- the least of all keys, where there is one, is a key of the table
pub least_there : (es : Entries) (ns : List Name) (o : Option (List ℕ)) → ns ≡ entry_keys es → IsLeast ns o
    → IfSome o (λ k. IsSome (get (map_of_entries es) k))
least_there es ns None all least = tt
least_there es ns (Some k) all least = is_some-get es k ∙ ap (list_any (is_named k)) (sym all) ∙ least.0

-- no key of the table comes before the least one, where there is one
pub least_first : (es : Entries) (ns : List Name) (o : Option (List ℕ)) → ns ≡ entry_keys es → IsLeast ns o
    → IfSome o (λ k. (q : List ℕ) → IsBefore q k → get (map_of_entries es) q ≡ None)
least_first es ns None all least = tt
least_first es ns (Some k) all least =
    λ q b. missing (get (map_of_entries es) q) (is_some-get es q ∙ ap (list_any (is_named q)) (sym all) ∙ least.1 q b)
