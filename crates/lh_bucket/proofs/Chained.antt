-- A call at a list of records in the order of a chain.
use Rattle.std.proofs.Common.{◌≡◌, ℕ, ◌<◌, cond, List, [], ◌∷◌, ◌++◌, length, get_or, Option, Some, None, is_some, refl}
use Rattle.std.proofs.Common.{sym, ap, subst, ◌∙◌}
use Rattle.std.specs.FinMap.{get, insert, remove}
use Rattle.lh_page.specs.declared.pair.Pair.{Pair}
use Rattle.lh_page.specs.Records.{place_of, no_pair}
use Rattle.lh_bucket.specs.declared.call.Call.{Call}
use Rattle.lh_bucket.specs.declared.call.Call.TheVariants.{Search, Insert, Delete, Replace}
use Rattle.lh_bucket.specs.PlainMap.{found, after}
use Rattle.lh_bucket.specs.Records.{map_of}
use Rattle.lh_bucket.specs.PagedBucket.{found_at, removed_at, replaced_at, served}
use Rattle.lh_bucket.proofs.MapOf.{Distinct, StandsAt, stands, get_or-any, map_of-push, map_of-swap_remove}
use Rattle.lh_bucket.proofs.MapOf.{map_of-with_value}

-- the record at the place of a key
pub stands_there : (ps : List Pair) (key : List ℕ) (place : ℕ) → Some place ≡ place_of ps key →
    (place < length ps) × ((get_or ps place no_pair).key ≡ key)
    × (get (map_of ps) key ≡ Some (get_or ps place no_pair).value)
stands_there ps key place is = subst (StandsAt ps key) (sym is) (stands ps key)

-- no record has a key that has no place
pub stands_nowhere : (ps : List Pair) (key : List ℕ) → None ≡ place_of ps key → get (map_of ps) key ≡ None
stands_nowhere ps key is = subst (StandsAt ps key) (sym is) (stands ps key)

-- what a search finds at the place of its key
pub found_at-is : (ps : List Pair) (key : List ℕ) (o : Option ℕ) → o ≡ place_of ps key →
    found_at ps o ≡ found (get (map_of ps) key)
found_at-is ps key (Some place) is = sym (ap found (stands_there ps key place is).2)
found_at-is ps key None is = sym (ap found (stands_nowhere ps key is))

pushed : (ps : List Pair) (key value : List ℕ) (o : Option ℕ) → StandsAt ps key o →
    map_of (cond (is_some o) ps (ps ++ record { key = key; value = value } ∷ [])) ≡
    cond (is_some (get (map_of ps) key)) (map_of ps) (insert (map_of ps) key value)
pushed ps key value None h =
    map_of-push ps (record { key = key; value = value }) h
    ∙ ap (λ (r : Option (List ℕ)). cond (is_some r) (map_of ps) (insert (map_of ps) key value)) (sym h)
pushed ps key value (Some place) h =
    ap (λ (r : Option (List ℕ)). cond (is_some r) (map_of ps) (insert (map_of ps) key value)) (sym h.2)

cut : (ps : List Pair) (key : List ℕ) (o : Option ℕ) → Distinct ps → StandsAt ps key o →
    map_of (removed_at ps o) ≡ cond (is_some (get (map_of ps) key)) (remove (map_of ps) key) (map_of ps)
cut ps key None d h = ap (λ (r : Option (List ℕ)). cond (is_some r) (remove (map_of ps) key) (map_of ps)) (sym h)
cut ps key (Some place) d h =
    map_of-swap_remove ps place (get_or ps place no_pair) h.0 (get_or-any ps place no_pair h.0) d
    ∙ ap (remove (map_of ps)) h.1
    ∙ ap (λ (r : Option (List ℕ)). cond (is_some r) (remove (map_of ps) key) (map_of ps)) (sym h.2)

changed : (ps : List Pair) (key value : List ℕ) (o : Option ℕ) → o ≡ place_of ps key → StandsAt ps key o →
    map_of (replaced_at ps o value) ≡ cond (is_some (get (map_of ps) key)) (insert (map_of ps) key value) (map_of ps)
changed ps key value None is h =
    ap (λ (r : Option (List ℕ)). cond (is_some r) (insert (map_of ps) key value) (map_of ps)) (sym h)
changed ps key value (Some place) is h =
    map_of-with_value ps place key value is (ap is_some h.2)
    ∙ ap (λ (r : Option (List ℕ)). cond (is_some r) (insert (map_of ps) key value) (map_of ps)) (sym h.2)

-- the map after a call
pub map_of-served : (ps : List Pair) (call : Call) → Distinct ps → map_of (served ps call) ≡ after (map_of ps) call
map_of-served ps (Search key) d = refl
map_of-served ps (Insert key value) d = pushed ps key value (place_of ps key) (stands ps key)
map_of-served ps (Delete key) d = cut ps key (place_of ps key) d (stands ps key)
map_of-served ps (Replace key value) d = changed ps key value (place_of ps key) refl (stands ps key)
