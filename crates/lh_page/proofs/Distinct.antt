-- No key stands twice: after an append, a removal, a change of value, and in a part.
use Rattle.std.proofs.Common.{◌≡◌, ◌≢◌, ℕ, ◌<◌, Bool, List, [], ◌∷◌, ◌++◌, length, get_or, set, None, sym, ap, ◌∙◌}
use Rattle.std.proofs.Common.{arith}
use Rattle.std.specs.List.{AllPairs, IsDistinct, filter, swap_remove}
use Rattle.std.specs.Str.{bytes_eq}
use Rattle.std.proofs.lemmas.List.{get_or-map, length-map, map-set, set-get_or, get_or_default}
use Rattle.std.proofs.lemmas.List.Kept.{AllPairs-filter}
use Rattle.std.proofs.lemmas.List.Quantifiers.{all_pairs_push}
use Rattle.std.proofs.lemmas.List.Sorted.{IsPermutation-swap_remove, IsPermutation-map}
use Rattle.std.proofs.lemmas.Map.Keys.{IsDistinct-IsPermutation, IsDistinct-tail}
use Rattle.std.proofs.lemmas.Map.Made.{AllPairs-from_IsDistinct, IsDistinct-from_AllPairs}
use Rattle.std.proofs.lemmas.Bool.Decides.{same_from_decides}
use Rattle.std.proofs.lemmas.Slice.Eq.{bytes_eq-Decides}
use Rattle.lh_page.specs.declared.pair.Pair.{Pair}
use Rattle.lh_page.specs.Records.{keys_of, place_of, no_pair, key_at}
use Rattle.lh_page.proofs.Places.{absent_from_None}

abbrev pub Apart : Pair → Pair → Type 0
Apart p q = p.key ≢ q.key

-- where no key stands twice, any two records have different keys
pub apart_from_distinct : (pairs : List Pair) → IsDistinct bytes_eq (keys_of pairs) → AllPairs Apart pairs
apart_from_distinct pairs h i j d lt below same =
    let keys = keys_of pairs in
    let many : length keys ≡ length pairs = length-map pairs (λ p. p.key) in
    AllPairs-from_IsDistinct bytes_eq-Decides keys h i j d.key lt (omega arith)
    (get_or-map (λ (p : Pair). p.key) pairs i d d.key (omega arith) ∙ same
    ∙ sym (get_or-map (λ (p : Pair). p.key) pairs j d d.key below))

-- where any two records have different keys, no key stands twice
pub distinct_from_apart : (pairs : List Pair) → AllPairs Apart pairs → IsDistinct bytes_eq (keys_of pairs)
distinct_from_apart pairs h = IsDistinct-from_AllPairs bytes_eq-Decides (keys_of pairs) (λ i j d lt below same.
    let many : length (keys_of pairs) ≡ length pairs = length-map pairs (λ p. p.key) in
    h i j no_pair lt (omega arith)
    (sym (get_or-map (λ (p : Pair). p.key) pairs i no_pair d (omega arith)) ∙ same
    ∙ get_or-map (λ (p : Pair). p.key) pairs j no_pair d (omega arith)))

-- no key stands twice where there are no records
pub distinct_none : (pairs : List Pair) → pairs ≡ [] → IsDistinct bytes_eq (keys_of pairs)
distinct_none pairs e = distinct_from_apart pairs (λ i j d lt below. absurd (omega (arith, ap length e)))

-- one record more, with a key that isn't there
pub distinct_push : (pairs : List Pair) (p : Pair) → IsDistinct bytes_eq (keys_of pairs) → place_of pairs p.key ≡ None →
    IsDistinct bytes_eq (keys_of (pairs ++ p ∷ []))
distinct_push pairs p h absent =
    distinct_from_apart (pairs ++ p ∷ []) (all_pairs_push Apart pairs p (apart_from_distinct pairs h)
    (λ k d below same.
    absent_from_None pairs p.key absent k below below
    (ap (λ (q : Pair). q.key) (get_or_default pairs k no_pair d below) ∙ same)))

bytes_eq-flip : (x y : List ℕ) → bytes_eq x y ≡ bytes_eq y x
bytes_eq-flip x y =
    let ys = bytes_eq-Decides y x in
    same_from_decides (bytes_eq x y) (bytes_eq y x) (bytes_eq-Decides x y) (λ e. sym (ys.0 e), λ e. ys.1 (sym e))

-- the last record moved into a hole
pub distinct_remove : (pairs : List Pair) (i : ℕ) (p : Pair) → i < length pairs → p ≡ get_or pairs i p →
    IsDistinct bytes_eq (keys_of pairs) → IsDistinct bytes_eq (keys_of (swap_remove pairs i p))
distinct_remove pairs i p below is h =
    IsDistinct-tail bytes_eq p.key (keys_of (swap_remove pairs i p))
    (IsDistinct-IsPermutation bytes_eq bytes_eq-flip (keys_of pairs) (keys_of (p ∷ swap_remove pairs i p))
    (IsPermutation-map (λ (p : Pair). p.key) pairs (p ∷ swap_remove pairs i p)
    (IsPermutation-swap_remove pairs i p below is)) h)

-- another value under the same key
pub keys_of-set : (pairs : List Pair) (i : ℕ) (p : Pair) → p.key ≡ key_at pairs i → i < length pairs →
    keys_of (set pairs i p) ≡ keys_of pairs
keys_of-set pairs i p same below =
    map-set (λ (p : Pair). p.key) pairs i p
    ∙ ap (λ key. set (keys_of pairs) i key) (same ∙ sym (get_or-map (λ (p : Pair). p.key) pairs i no_pair [] below))
    ∙ set-get_or (keys_of pairs) i []

-- a part in the same order
pub distinct_filter : (test : Pair → Bool) (pairs : List Pair) → IsDistinct bytes_eq (keys_of pairs) →
    IsDistinct bytes_eq (keys_of (filter test pairs))
distinct_filter test pairs h =
    distinct_from_apart (filter test pairs) (AllPairs-filter Apart test pairs (apart_from_distinct pairs h))
