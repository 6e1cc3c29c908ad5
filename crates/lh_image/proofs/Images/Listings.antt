-- The listing of a View: how many lists it has, what they hold, and that an image has no other
use Rattle.std.proofs.Common.{◌≡◌, inl, inr, ℕ, ◌+◌, ◌-◌, ◌<◌, List, [], ◌∷◌, length, map, get_or, refl, sym, ap, ◌∙◌}
use Rattle.std.proofs.Common.{arith, true, eqb}
use Rattle.std.specs.List.{All, range_with_len, flat_map, sum_by, IsDistinct, list_any}
use Rattle.std.specs.Str.{bytes_eq}
use Rattle.std.proofs.lemmas.Bool.{cases_lt, eq-eqb, or_left, or_right}
use Rattle.std.proofs.lemmas.List.Elements.{All-append, All-nil}
use Rattle.std.proofs.lemmas.List.{same_lists, get_or_default, get_or_past}
use Rattle.std.proofs.lemmas.List.FromFn.{length-map-range_with_len, get_or-map-range_with_len}
use Rattle.std.proofs.lemmas.List.Concat.{length-flat_map}
use Rattle.std.proofs.lemmas.List.Sums.{sum_by-cons}
use Rattle.lh_addr.specs.Settings.{Settings}
use Rattle.lh_page.specs.declared.pair.Pair.{Pair}
use Rattle.lh_page.specs.Records.{IsRecord, keys_of}
use Rattle.lh_bucket.specs.Listing.{Lists, IsHome, EachPlace, size, list_at, count_of}
use Rattle.lh_image.specs.declared.header.Header.{Header}
use Rattle.lh_image.specs.Chains.{stands_in, IsCovered}
use Rattle.lh_image.specs.Image.{Shows, listing_of}
use Rattle.lh_image.specs.View.{View, IsView, buckets, page_count, numbers, used, bucket, next, chain_of}
use Rattle.lh_image.proofs.Paths.Totals.{sum_covered, sum_same}
use Rattle.lh_image.proofs.Paths.ShortPaths.{paths_are_chains}

-- the records of the chain of bucket i
abbrev pub chain_records : View → ℕ → List Pair
chain_records v i = flat_map (v.records) (chain_of v i)

-- the listing of a View has as many lists as the View has buckets
pub size-listing_of : (v : View) → size (listing_of v) ≡ buckets v
unfolding listing_of
size-listing_of v = length-map-range_with_len (chain_records v) 0 (buckets v)

-- each list of the listing has the records of its bucket's chain
pub list_at-listing_of : (v : View) (i : ℕ) → i < buckets v → list_at (listing_of v).lists i ≡ chain_records v i
unfolding listing_of
list_at-listing_of v i l = get_or-map-range_with_len (chain_records v) 0 (buckets v) i i [] l (omega arith)

sum_lists : (f : ℕ → List Pair) (xs : List ℕ) → sum_by (λ ys. length ys) (map f xs) ≡ sum_by (λ i. length (f i)) xs
sum_lists f [] = refl
sum_lists f (x ∷ xs) =
    sum_by-cons (λ ys. length ys) (f x) (map f xs) ∙ ap (λ n. length (f x) + n) (sum_lists f xs)
    ∙ sym (sum_by-cons (λ i. length (f i)) x xs)

-- the records of the listing are those of all pages
pub count-listing_of : (v : View) → IsView v → IsCovered (next v) (bucket v) (buckets v) (page_count v) (chain_of v) →
    count_of (listing_of v).lists ≡ sum_by (used v) (numbers (page_count v))
unfolding listing_of numbers
count-listing_of v view covered =
    sum_lists (chain_records v) (range_with_len 0 (buckets v))
    ∙ sum_same (λ i. length (chain_records v i)) (λ i. sum_by (λ p. length (v.records p)) (chain_of v i)) 0 (buckets v)
    (λ i l h. length-flat_map (v.records) (chain_of v i))
    ∙ sum_covered (next v) (bucket v) (buckets v) (page_count v) (chain_of v) (λ p. length (v.records p)) covered
    ∙ sum_same (λ p. length (v.records p)) (used v) 1 (page_count v - 1) (λ p l h. view.counted p l)

-- ---- a listing by its buckets

-- the records of a listing are at home where those of each of its buckets are
pub home_by : (l : Lists) (initial buckets : ℕ) →
    ((i : ℕ) → i < size l → (place : ℕ) → place < length (list_at l.lists i) →
    IsHome initial buckets i (list_at l.lists i) place) →
    EachPlace (IsHome initial buckets) l.lists
home_by l initial buckets each i place below = elim (cases_lt i (size l)) [
  | inl low ↦ each i low place below
  | inr high ↦ let past : place < 0 = rw (get_or_past l.lists i [] high) at below in absurd (omega arith)
]

-- every list is one of records where that of each bucket is
pub records_by : (l : Lists) → ((i : ℕ) → i < size l → All IsRecord (list_at l.lists i)) → (i : ℕ) →
    All IsRecord (list_at l.lists i)
records_by l each i = elim (cases_lt i (size l)) [
  | inl low ↦ each i low
  | inr high ↦ rw (get_or_past l.lists i [] high) (All-nil IsRecord)
]

-- the records of some pages are records where those of each are
pub records_along : (rec : ℕ → List Pair) (xs : List ℕ) → ((p : ℕ) → stands_in xs p ≡ true → All IsRecord (rec p)) →
    All IsRecord (flat_map rec xs)
unfolding stands_in
records_along rec [] each = All-nil IsRecord
records_along rec (x ∷ xs) each =
    All-append IsRecord (rec x) (flat_map rec xs)
    (each x (or_left (eqb x x) (list_any (λ q. eqb q x) xs) (eq-eqb x x refl)))
    (records_along rec xs (λ p here. each p (or_right (eqb x p) (list_any (λ q. eqb q p) xs) here)))

-- no list has a key twice where that of no bucket has
pub distinct_by : (l : Lists) → ((i : ℕ) → i < size l → IsDistinct bytes_eq (keys_of (list_at l.lists i))) → (i : ℕ) →
    IsDistinct bytes_eq (keys_of (list_at l.lists i))
unfolding IsDistinct
distinct_by l each i = elim (cases_lt i (size l)) [
  | inl low ↦ each i low
  | inr high ↦ rw (get_or_past l.lists i [] high) tt
]

-- ---- the listing of an image

-- pages that show a listing are as many as the header says
pub pages_are : (v : View) (l : Lists) (P : ℕ) (path : ℕ → List ℕ) → Shows v l P path → P ≡ page_count v
pages_are v l P path i = sym (ap (λ (h : Header). h.pages) i.header)

-- the paths, in words of the View alone
paths_of : (v : View) (l : Lists) (P : ℕ) (path : ℕ → List ℕ) → buckets v ≡ size l → page_count v ≡ P →
    IsCovered (next v) (bucket v) (size l) P path →
    IsCovered (next v) (bucket v) (buckets v) (page_count v) path
paths_of v l P path e f c = rw (e, f) c

-- the listing that pages show is that of their View
pub listing_is : (v : View) (l : Lists) (P : ℕ) (path : ℕ → List ℕ) → Shows v l P path → l ≡ listing_of v
unfolding listing_of
listing_is v l P path i =
    let config : v.header.config ≡ l.config = ap (λ (h : Header). h.config) i.header in
    let eS : buckets v ≡ size l = ap (λ (h : Header). h.buckets) i.header in
    let covered = paths_of v l P path eS (sym (pages_are v l P path i)) i.paths in
    let f : ℕ → List Pair = chain_records v in
    let long : length (map f (range_with_len 0 (buckets v))) ≡ buckets v = length-map-range_with_len f 0 (buckets v) in
    let lists : map f (range_with_len 0 (buckets v)) ≡ l.lists =
    same_lists (map f (range_with_len 0 (buckets v))) l.lists (long ∙ eS) (λ k d h.
    let low : k < buckets v = omega arith in
    let below : k < length l.lists = omega arith in
    let one : get_or (map f (range_with_len 0 (buckets v))) k d ≡ f k =
    get_or-map-range_with_len f 0 (buckets v) k k d low (omega arith) in
    let two : f k ≡ get_or l.lists k [] =
    ap (flat_map (v.records)) (paths_are_chains (next v) (bucket v) (buckets v) (page_count v) path covered k low)
    ∙ i.content k below in
    one ∙ two ∙ get_or_default l.lists k [] d below) in
    let whole : Settings → List (List Pair) → Lists = λ c ls. record { config = c; lists = ls } in
    sym (ap (λ (c : Settings). whole c (map f (range_with_len 0 (buckets v)))) config ∙ ap (whole l.config) lists)
