-- In an image of a listing each record of its map has one place, and no other record has one
use Rattle.std.proofs.Common.{◌≡◌, ◌≢◌, ℕ, ◌+◌, ◌*◌, ◌/◌, ◌%◌, ◌<◌, ◌≤◌, Bool, true, false, eqb, List, [], ◌∷◌}
use Rattle.std.proofs.Common.{◌++◌, ◌||◌, length, get_or, Option, Some, None, refl, sym, ap, subst}
use Rattle.std.proofs.Common.{◌∙◌, inl, inr, arith}
use Rattle.std.proofs.Common.{lit≤}
use Rattle.std.specs.Prelude.{◌==◌}
use Rattle.std.specs.FinMap.{get, retain_keys}
use Rattle.std.specs.List.{Contains, IsDistinct, flat_map, list_any}
use Rattle.std.specs.Str.{bytes_eq}
use Rattle.std.proofs.lemmas.Bool.{cases_eq, cases_lt, eq-eqb, false≢true, ne_eqb, or_left, or_right}
use Rattle.std.proofs.lemmas.List.{length-append, length-map, get_or-map, get_or_append_left, get_or-append-add}
use Rattle.std.proofs.lemmas.List.{get_or_default, map-append}
use Rattle.std.proofs.lemmas.List.Concat.{flat_map-cons}
use Rattle.std.proofs.lemmas.List.Elements.{Contains-append_cases, Contains-append_left, Contains-append_right}
use Rattle.std.proofs.lemmas.List.FromFn.{get_or-map-range_with_len, length-map-range_with_len}
use Rattle.std.proofs.lemmas.Map.Keys.{IsDistinct-from_apart, IsDistinct-tail, apart_from_distinct}
use Rattle.std.proofs.lemmas.Slice.Eq.{bytes_eq-Decides}
use Rattle.lh_addr.specs.Fnv.{code_of}
use Rattle.lh_addr.specs.Growth.{AddressLaw, address}
use Rattle.lh_page.specs.declared.format.Format.{Format}
use Rattle.lh_page.specs.declared.pair.Pair.{Pair}
use Rattle.lh_page.specs.PageFields.{pair_of, pairs_of, used_of}
use Rattle.lh_page.specs.PageTable.{slot}
use Rattle.lh_page.specs.Records.{keys_of, no_pair}
use Rattle.lh_bucket.specs.Laws.{LookupLaw, PlacedLaw}
use Rattle.lh_bucket.specs.Listing.{Lists, all_of, list_at, size}
use Rattle.lh_bucket.specs.PlainMap.{Records}
use Rattle.lh_bucket.specs.Records.{map_of}
use Rattle.lh_image.specs.declared.version.Version.{Version}
use Rattle.lh_image.specs.declared.version.Version.TheVariants.{One, Two}
use Rattle.lh_image.specs.Chains.{stands_in}
use Rattle.lh_image.specs.Image.{IsImageBy}
use Rattle.lh_image.specs.Indexed.{HasRecordAt, PlacesLaw, placed_at}
use Rattle.lh_image.specs.Layout.{header_of, page, view_of}
use Rattle.lh_image.specs.Version.{format_of, version_of}
use Rattle.lh_image.specs.View.{bucket}
use Rattle.lh_image.proofs.Images.Listings.{pages_are}
use Rattle.lh_image.proofs.Looking.Maps.{kept, not_kept}

-- ---- the records of a page

pairs_long : (f : Format) (pg : List ℕ) → length (pairs_of f pg) ≡ used_of pg
unfolding pairs_of
pairs_long f pg = length-map-range_with_len (λ i. pair_of f (slot f pg i)) 0 (used_of pg)

pairs_at : (f : Format) (pg : List ℕ) (k : ℕ) (d : Pair) → k < used_of pg →
    get_or (pairs_of f pg) k d ≡ pair_of f (slot f pg k)
unfolding pairs_of
pairs_at f pg k d low = get_or-map-range_with_len (λ i. pair_of f (slot f pg i)) 0 (used_of pg) k k d low (omega arith)

-- the record in a used slot is one of the page's
in_page : (f : Format) (pg : List ℕ) (k : ℕ) → k < used_of pg → Contains (pairs_of f pg) (pair_of f (slot f pg k))
in_page f pg k low =
    let r = pair_of f (slot f pg k) in
    (k, omega (arith, pairs_long f pg), pairs_at f pg k r low)

-- and each of the page's is in a used slot
from_page : (f : Format) (pg : List ℕ) (r : Pair) → Contains (pairs_of f pg) r →
    (k : ℕ) × (k < used_of pg) × (pair_of f (slot f pg k) ≡ r)
from_page f pg r (k, low, is) =
    let l : k < used_of pg = omega (arith, pairs_long f pg) in
    (k, l, sym (pairs_at f pg k r l) ∙ is)

-- ---- the records of some pages, one page after another

later : (x p : ℕ) (xs : List ℕ) → x ≢ p → stands_in (x ∷ xs) p ≡ true → stands_in xs p ≡ true
unfolding stands_in
later x p xs other there = subst (λ b. (b || list_any (λ q. eqb q p) xs) ≡ true) (ne_eqb x p other) there

-- a record of one of the pages is one of all
in_pages : (f : ℕ → List Pair) (xs : List ℕ) (p : ℕ) (r : Pair) → stands_in xs p ≡ true → Contains (f p) r →
    Contains (flat_map f xs) r
unfolding stands_in
in_pages f [] p r there has = absurd cc
in_pages f (x ∷ xs) p r there has = elim (cases_eq x p) [
  | inl same ↦
      rw flat_map-cons (Contains-append_left (f x) (flat_map f xs) r (subst (λ q. Contains (f q) r) (sym same) has))
  | inr other ↦
      rw flat_map-cons
      (Contains-append_right (f x) (flat_map f xs) r (in_pages f xs p r (later x p xs other there) has))
]

-- and each of all is one of one of the pages
from_pages : (f : ℕ → List Pair) (xs : List ℕ) (r : Pair) → Contains (flat_map f xs) r →
    (p : ℕ) × (stands_in xs p ≡ true) × Contains (f p) r
unfolding stands_in
from_pages f [] r (k, low, is) = absurd (omega (arith, low))
from_pages f (x ∷ xs) r has = elim (Contains-append_cases (f x) (flat_map f xs) r (rw flat_map-cons at has)) [
  | inl here ↦ (x, or_left (eqb x x) (list_any (λ q. eqb q x) xs) (eq-eqb x x refl), here)
  | inr there ↦
      let (p, among, own) = from_pages f xs r there in
      (p, or_right (eqb x p) (list_any (λ q. eqb q p) xs) among, own)
]

-- ---- no key twice

tail_distinct : (a b : List (List ℕ)) → IsDistinct bytes_eq (a ++ b) → IsDistinct bytes_eq b
tail_distinct [] b d = d
tail_distinct (x ∷ a) b d = tail_distinct a b (IsDistinct-tail bytes_eq x (a ++ b) d)

head_distinct : (a b : List (List ℕ)) → IsDistinct bytes_eq (a ++ b) → IsDistinct bytes_eq a
head_distinct a b d = IsDistinct-from_apart bytes_eq a (λ i j e lt below.
    let first : i < length a = omega arith in
    let l : j < length (a ++ b) = omega (arith, length-append a b) in
    subst (λ x. bytes_eq x (get_or a j e) ≡ false) (get_or_append_left a b e i first)
    (subst (λ x. bytes_eq (get_or (a ++ b) i e) x ≡ false) (get_or_append_left a b e j below)
    (apart_from_distinct bytes_eq (a ++ b) i j e d lt l)))

parted : (xs ys : List Pair) → IsDistinct bytes_eq (keys_of (xs ++ ys)) → IsDistinct bytes_eq (keys_of xs ++ keys_of ys)
parted xs ys d = subst (IsDistinct bytes_eq) (map-append (λ (p : Pair). p.key) xs ys) d

key_there : (xs : List Pair) (i : ℕ) (r : Pair) → i < length xs → get_or xs i r ≡ r → get_or (keys_of xs) i [] ≡ r.key
key_there xs i r low is = get_or-map (λ (p : Pair). p.key) xs i r [] low ∙ ap (λ (p : Pair). p.key) is

-- where no key stands twice, two places have two keys
apart : (xs : List Pair) (i j : ℕ) (r s : Pair) → IsDistinct bytes_eq (keys_of xs) → i < j → j < length xs →
    get_or xs i r ≡ r → get_or xs j s ≡ s → r.key ≡ s.key → ⊥
apart xs i j r s d lt low here there same =
    let long : length (keys_of xs) ≡ length xs = length-map xs (λ (p : Pair). p.key) in
    let first : i < length xs = omega arith in
    let l : j < length (keys_of xs) = omega arith in
    let a : bytes_eq (get_or (keys_of xs) i []) (get_or (keys_of xs) j []) ≡ false =
    apart_from_distinct bytes_eq (keys_of xs) i j [] d lt l in
    let b : bytes_eq r.key s.key ≡ true = (bytes_eq-Decides r.key s.key).1 same in
    false≢true
    (sym a ∙ ap (λ k. bytes_eq k (get_or (keys_of xs) j [])) (key_there xs i r first here)
    ∙ ap (bytes_eq r.key) (key_there xs j s low there) ∙ b)

-- so one key has one place
one_place : (xs : List Pair) (i j : ℕ) (r s : Pair) → IsDistinct bytes_eq (keys_of xs) → i < length xs →
    j < length xs → get_or xs i r ≡ r → get_or xs j s ≡ s → r.key ≡ s.key → i ≡ j
one_place xs i j r s d low less here there same = elim (cases_lt i j) [
  | inl before ↦ absurd (apart xs i j r s d before less here there same)
  | inr behind ↦ elim (cases_lt j i) [
    | inl before ↦ absurd (apart xs j i s r d before low there here (sym same))
    | inr level ↦ omega arith
  ]
]

across : (xs ys : List Pair) (r s : Pair) → IsDistinct bytes_eq (keys_of (xs ++ ys)) → Contains xs r → Contains ys s →
    r.key ≡ s.key → ⊥
across xs ys r s d (i, low, is) (j, less, at) same =
    let before : i < length xs + j = omega arith in
    let within : length xs + j < length (xs ++ ys) = omega (arith, length-append xs ys) in
    apart (xs ++ ys) i (length xs + j) r s d before within (get_or_append_left xs ys r i low ∙ is)
    (get_or-append-add xs ys j s ∙ at) same

-- the records of one of the pages have no key twice
page_distinct : (f : ℕ → List Pair) (xs : List ℕ) (p : ℕ) → IsDistinct bytes_eq (keys_of (flat_map f xs)) →
    stands_in xs p ≡ true → IsDistinct bytes_eq (keys_of (f p))
unfolding stands_in
page_distinct f [] p d there = absurd cc
page_distinct f (x ∷ xs) p d there =
    let both = parted (f x) (flat_map f xs) (rw flat_map-cons at d) in
    elim (cases_eq x p) [
      | inl same ↦ subst (λ q. IsDistinct bytes_eq (keys_of (f q))) same (head_distinct (keys_of (f x)) _ both)
      | inr other ↦
          page_distinct f xs p (tail_distinct (keys_of (f x)) (keys_of (flat_map f xs)) both) (later x p xs other there)
    ]

-- nor do those of two of them
pages_apart : (f : ℕ → List Pair) (xs : List ℕ) (p q : ℕ) (r s : Pair) →
    IsDistinct bytes_eq (keys_of (flat_map f xs)) → stands_in xs p ≡ true → stands_in xs q ≡ true → p ≢ q →
    Contains (f p) r → Contains (f q) s → r.key ≡ s.key → ⊥
unfolding stands_in
pages_apart f [] p q r s d there too other has own same = absurd cc
pages_apart f (x ∷ xs) p q r s d there too other has own same =
    let d' : IsDistinct bytes_eq (keys_of (f x ++ flat_map f xs)) = rw flat_map-cons at d in
    elim (cases_eq x p) [
      | inl first ↦
          let apart_too : x ≢ q = λ e. other (sym first ∙ e) in
          across (f x) (flat_map f xs) r s d' (subst (λ y. Contains (f y) r) (sym first) has)
          (in_pages f xs q s (later x q xs apart_too too) own) same
      | inr away ↦ elim (cases_eq x q) [
        | inl second ↦
            across (f x) (flat_map f xs) s r d' (subst (λ y. Contains (f y) s) (sym second) own)
            (in_pages f xs p r (later x p xs away there) has) (sym same)
        | inr neither ↦
            pages_apart f xs p q r s
            (tail_distinct (keys_of (f x)) (keys_of (flat_map f xs)) (parted (f x) (flat_map f xs) d'))
            (later x p xs away there) (later x q xs neither too) other has own same
      ]
    ]

-- ---- the map

retained : (m : Records) (f : List ℕ → Bool) (q value : List ℕ) (b : Bool) → f q ≡ b →
    get (retain_keys m f) q ≡ Some value → get m q ≡ Some value
retained m f q value true e h = sym (kept m f q e) ∙ h
retained m f q value false e h = absurd (none_there (sym (not_kept m f q e) ∙ h))
  where
    none_there : ◌≡◌ {A = Option (List ℕ)} None (Some value) → ⊥
    none_there e = cc

-- ---- an image

slots_few : (version : Version) → (format_of version).slots ≤ 24
slots_few One = lit≤ tt
slots_few Two = lit≤ tt

module _ (addresses : AddressLaw) (lookup : LookupLaw) (placed : PlacedLaw) (bytes : List ℕ) (l : Lists) (P : ℕ)
    (path : ℕ → List ℕ) (i : IsImageBy bytes l P path) where
  pages_all : (header_of bytes).pages ≡ P
  unfolding view_of
  pages_all = sym (pages_are (view_of bytes) l P path i.shown)

  -- the records of a page in the View
  records_are : (p : ℕ) → (view_of bytes).records p ≡ pairs_of (format_of (version_of bytes)) (page bytes p)
  unfolding view_of
  records_are p = refl

  record IsOwn (p : ℕ) (r : Pair) : Type 0 where
    low : bucket (view_of bytes) p < size l
    among : stands_in (path (bucket (view_of bytes) p)) p ≡ true
    listed : Contains (list_at l.lists (bucket (view_of bytes) p)) r
    home : address l.config.initial (size l) (code_of r.key) ≡ bucket (view_of bytes) p

  -- what stands in a page stands in the list of its bucket, where it is at home
  is_own : (p : ℕ) (r : Pair) → 1 ≤ p → p < P → Contains ((view_of bytes).records p) r → IsOwn p r
  is_own p r from below has =
      let v = view_of bytes in
      let b = bucket v p in
      let all = i.shown.paths.all p from below in
      let listed : Contains (list_at l.lists b) r =
      subst (λ xs. Contains xs r) (i.shown.content b all.0) (in_pages v.records (path b) p r all.1 has) in
      record {
        low = all.0;
        among = all.1;
        listed = listed;
        home =
            ap (λ k. address l.config.initial (size l) (code_of k))
            (ap (λ (x : Pair). x.key) (sym listed.2 ∙ get_or_default (list_at l.lists b) listed.0 r no_pair listed.1))
            ∙ i.shown.listing.home b listed.0 listed.1;
      }

  stands_own : (at : ℕ) → HasRecordAt bytes at → IsOwn (at / 24) (placed_at bytes at)
  stands_own at h =
      is_own (at / 24) (placed_at bytes at) h.from (omega (arith, h.below, pages_all))
      (subst (λ xs. Contains xs (placed_at bytes at)) (sym (records_are (at / 24)))
      (in_page (format_of (version_of bytes)) (page bytes (at / 24)) (at % 24) h.used))

  -- what stands at a place is in the map
  pub place_own : (at : ℕ) → HasRecordAt bytes at →
      get (map_of (all_of l.lists)) (placed_at bytes at).key ≡ Some (placed_at bytes at).value
  place_own at h =
      let r = placed_at bytes at in
      let o = stands_own at h in
      let b = bucket (view_of bytes) (at / 24) in
      retained (map_of (all_of l.lists)) (λ key. address l.config.initial (size l) (code_of key) == b) r.key r.value _
      refl
      (ap (λ m. get m r.key) (sym (placed l b i.shown.listing o.low))
      ∙ (lookup (list_at l.lists b) r.key r.value (i.shown.listing.distinct b)).1 o.listed)

  -- at two places stand two keys
  pub place_once : (a b : ℕ) → HasRecordAt bytes a → HasRecordAt bytes b →
      (placed_at bytes a).key ≡ (placed_at bytes b).key → a ≡ b
  place_once a b h g same =
      let v = view_of bytes in
      let r = placed_at bytes a in
      let s = placed_at bytes b in
      let o = stands_own a h in
      let q = stands_own b g in
      let one : bucket v (a / 24) ≡ bucket v (b / 24) =
      sym o.home ∙ ap (λ k. address l.config.initial (size l) (code_of k)) same ∙ q.home in
      let c = bucket v (a / 24) in
      let d : IsDistinct bytes_eq (keys_of (flat_map v.records (path c))) =
      subst (λ xs. IsDistinct bytes_eq (keys_of xs)) (sym (i.shown.content c o.low)) (i.shown.listing.distinct c) in
      let there : stands_in (path c) (b / 24) ≡ true =
      subst (λ x. stands_in (path x) (b / 24) ≡ true) (sym one) q.among in
      let f = format_of (version_of bytes) in
      let has : (p : ℕ) (k : ℕ) → k < used_of (page bytes p) →
      Contains (v.records p) (pair_of f (slot f (page bytes p) k)) =
      λ p k low.
      subst (λ xs. Contains xs (pair_of f (slot f (page bytes p) k))) (sym (records_are p))
      (in_page f (page bytes p) k low) in
      elim (cases_eq (a / 24) (b / 24)) [
        | inl here ↦
            let pg = page bytes (a / 24) in
            let dp : IsDistinct bytes_eq (keys_of (pairs_of f pg)) =
            subst (λ xs. IsDistinct bytes_eq (keys_of xs)) (records_are (a / 24))
            (page_distinct v.records (path c) (a / 24) d o.among) in
            let used : b % 24 < used_of pg = subst (λ p. b % 24 < used_of (page bytes p)) (sym here) g.used in
            let s_is : s ≡ pair_of f (slot f pg (b % 24)) =
            ap (λ p. pair_of f (slot f (page bytes p) (b % 24))) (sym here) in
            let at : a % 24 ≡ b % 24 =
            one_place (pairs_of f pg) (a % 24) (b % 24) r s dp (omega (arith, h.used, pairs_long f pg))
            (omega (arith, used, pairs_long f pg)) (pairs_at f pg (a % 24) r h.used)
            (pairs_at f pg (b % 24) s used ∙ sym s_is) same in
            omega (arith, here, at)
        | inr other ↦
            absurd
            (pages_apart v.records (path c) (a / 24) (b / 24) r s d o.among there other (has (a / 24) (a % 24) h.used)
            (has (b / 24) (b % 24) g.used) same)
      ]

  -- each record of the map stands at a place
  pub place_there : (key value : List ℕ) → get (map_of (all_of l.lists)) key ≡ Some value →
      (at : ℕ) × HasRecordAt bytes at × (placed_at bytes at ≡ record { key = key; value = value })
  place_there key value e =
      let v = view_of bytes in
      let f = format_of (version_of bytes) in
      let b = address l.config.initial (size l) (code_of key) in
      let listing = i.shown.listing in
      let low : b < size l =
      ((addresses l.config.initial (size l) (code_of key) b listing.config.initial.0 listing.shape.from_initial).0
      refl).0 in
      let r : Pair = record { key = key; value = value } in
      let got : get (map_of (list_at l.lists b)) key ≡ Some value =
      ap (λ m. get m key) (placed l b listing low)
      ∙ kept (map_of (all_of l.lists)) (λ k. eqb (address l.config.initial (size l) (code_of k)) b) key
      (eq-eqb b b refl)
      ∙ e in
      let listed : Contains (list_at l.lists b) r = (lookup (list_at l.lists b) key value (listing.distinct b)).0 got in
      let (p, among, has) =
      from_pages v.records (path b) r (subst (λ xs. Contains xs r) (sym (i.shown.content b low)) listed) in
      let own = i.shown.paths.own b p low among in
      let pg = page bytes p in
      let (k, used, is) = from_page f pg r (subst (λ xs. Contains xs r) (records_are p) has) in
      let few : used_of pg ≤ f.slots = used_few p own.0 own.1 in
      let small : k < 24 = omega (arith, used, few, slots_few (version_of bytes)) in
      let page_is : (24 * p + k) / 24 ≡ p = omega arith in
      let slot_is : (24 * p + k) % 24 ≡ k = omega arith in (
        24 * p + k,
        record {
          from = omega (arith, page_is, own.0);
          below = omega (arith, page_is, own.1, pages_all);
          used = rw (page_is, slot_is) used;
        },
        rw (page_is, slot_is) is,
      )
    where
      used_few : (p : ℕ) → 1 ≤ p → p < P → used_of (page bytes p) ≤ (format_of (version_of bytes)).slots
      used_few p from below =
          omega (arith, pairs_long (format_of (version_of bytes)) (page bytes p), (i.pages p from below).1.pairs.few)

-- in an image of a listing each record of its map has one place, and no other record has one
pub places_law : AddressLaw → LookupLaw → PlacedLaw → PlacesLaw
places_law addresses lookup placed bytes l (P, path, i) = record {
  there = place_there addresses lookup placed bytes l P path i;
  own = place_own addresses lookup placed bytes l P path i;
  once = place_once addresses lookup placed bytes l P path i;
}
