-- What is found is what the plain map has, and stands there
use Rattle.std.proofs.Common.{◌≡◌, ◌≢◌, ℕ, zero, suc, ◌+◌, ◌-◌, ◌<◌, ◌≤◌, Bool, true, false, cond, not, ◌||◌, ◌&&◌, eqb}
use Rattle.std.proofs.Common.{leb, List, [], ◌∷◌, ◌++◌, length, Option, Some, None, Result, Ok, Err, refl, sym, ap}
use Rattle.std.proofs.Common.{subst, ◌∙◌, inl, inr, arith}
use Rattle.std.specs.List.{Contains, flat_map, list_any}
use Rattle.std.specs.Option.{option_or}
use Rattle.std.specs.Str.{bytes_eq}
use Rattle.std.specs.FinMap.{get, retain_keys, get-retain_keys, slice_cmp-IsAntisymmetric, nat_cmp-IsAntisymmetric}
use Rattle.std.proofs.lemmas.Bool.{or_parts, or_from, or_left, or_right, cases_eq, eq-eqb, ne_eqb}
use Rattle.std.proofs.lemmas.Bool.Decides.{nat_tests}
use Rattle.lh_addr.specs.Extent.{Extent}
use Rattle.lh_addr.specs.Fnv.{code_of}
use Rattle.lh_addr.specs.Growth.{AddressLaw, address}
use Rattle.lh_page.specs.declared.pair.Pair.{Pair}
use Rattle.lh_bucket.specs.Laws.{LookupLaw, PlacedLaw}
use Rattle.lh_bucket.specs.Listing.{Lists, all_of, list_at, size}
use Rattle.lh_bucket.specs.PlainMap.{Records}
use Rattle.lh_bucket.specs.Records.{map_of}
use Rattle.lh_image.specs.declared.fault.ImageFault.{ImageFault}
use Rattle.lh_image.specs.declared.fault.ImageFault.TheVariants.{Twice}
use Rattle.lh_image.specs.declared.header.Header.{Header}
use Rattle.lh_image.specs.Chains.{IsPath, pages_from, stands_in}
use Rattle.lh_image.specs.Faults.{bad_bucket, has_misfit, is_at_home, misfits}
use Rattle.lh_image.specs.Faults.{first_fault_of}
use Rattle.lh_image.specs.Image.{IsImage, OneListingLaw, header_for}
use Rattle.lh_image.specs.Layout.{header_of, view_of}
use Rattle.lh_image.specs.LookUp.{IsOpenedImage, MapLaw, StandsLaw, Stands, found_first, found_from, has_stranger}
use Rattle.lh_image.specs.LookUp.{head_rows_at, home_of, look_up, own_fault, rest_rows_at, value_in}
use Rattle.lh_image.specs.View.{View, initial, buckets, bucket, next, page_count}
use Rattle.lh_image.proofs.Bytes.HeaderTests.{are_in_range}
use Rattle.lh_image.proofs.Faults.FirstAnswers.{none_first}
use Rattle.lh_image.proofs.Faults.Sound.{IsClean, IsSound, sound_law}
use Rattle.lh_image.proofs.Images.Listings.{pages_are}
use Rattle.lh_image.proofs.Looking.Steps.{found_end, found_more, found_twice, next_within, so_none}
use Rattle.lh_image.proofs.Looking.Values.{value_in-append, value_in-is, value_in-none, value_in-stands}
use Rattle.lh_image.proofs.Paths.ShortPaths.{path_short}

-- the header of an image is that of its listing
pub header_listed : (bytes : List ℕ) (l : Lists) → IsImage bytes l →
    (P : ℕ) × (header_of bytes ≡ header_for (header_of bytes).version l P)
unfolding view_of
header_listed bytes l (P, path, i) = (P, i.shown.header)

-- ---- pages without a fault have none by themselves

no_strangers : (home : List ℕ → Bool) (came : List (List ℕ)) (rs : List Pair) → misfits home came rs ≡ false →
    list_any (λ (r : Pair). not (home r.key)) rs ≡ false
unfolding misfits
no_strangers home came [] e = refl
no_strangers home came (r ∷ rs) e =
    let p = or_parts (not (home r.key) || list_any (bytes_eq r.key) came) (misfits home (came ++ r.key ∷ []) rs) e in
    let q = or_parts (not (home r.key)) (list_any (bytes_eq r.key) came) p.0 in
    or_from (not (home r.key)) (list_any (λ (x : Pair). not (home x.key)) rs) q.0
    (no_strangers home (came ++ r.key ∷ []) rs p.1)

stranger_none : (v : View) (i p : ℕ) → IsClean v → 1 ≤ p → p < page_count v → bucket v p ≡ i →
    has_stranger v i p ≡ false
unfolding has_stranger has_misfit
stranger_none v i p clean low high own =
    subst (λ b. list_any (λ (r : Pair). not (is_at_home v b r.key)) (v.records p) ≡ false) own
    (no_strangers (is_at_home v (bucket v p)) _ (v.records p) (clean.fitting p low high))

own_none : (v : View) (i p : ℕ) → IsClean v → 1 ≤ p → p < page_count v → bucket v p ≡ i → own_fault v i p ≡ None
unfolding own_fault first_fault_of
own_none v i p clean low high own =
    rw (
      clean.kinds p low high,
      clean.numbers_are p low high,
      clean.levels p low high,
      clean.used p low high,
      clean.nexts p low high,
      clean.slots p low high,
      stranger_none v i p clean low high own,
    ) refl

-- ---- along a path

joined : (o r : Option (List ℕ)) → found_first None o (Ok r) ≡ Ok (option_or o r)
joined None r = refl
joined (Some w) r = refl

along : (v : View) (key : List ℕ) (xs : List ℕ) (n p : ℕ) → IsPath (next v) p xs → length xs ≤ n →
    ((q : ℕ) → stands_in xs q ≡ true → own_fault v (home_of v key) q ≡ None) →
    found_from v key n p ≡ Ok (value_in key (flat_map v.records xs))
unfolding stands_in
along v key [] n p path few none = ap (found_from v key n) path ∙ found_end v key n ∙ ap Ok (sym (value_in-none key))
along v key (x ∷ xs) zero p path few none = absurd (omega arith)
along v key (x ∷ xs) (suc n) p path few none =
    let here : own_fault v (home_of v key) p ≡ None =
    ap (own_fault v (home_of v key)) (sym path.0)
    ∙ none x (or_left (eqb x x) (list_any (λ q. eqb q x) xs) (eq-eqb x x refl)) in
    let rest =
    along v key xs n (next v p) path.2 (omega arith)
    (λ q there. none q (or_right (eqb x q) (list_any (λ y. eqb y q) xs) there)) in
    found_more v key (suc n) n p refl (λ z. omega (arith, path.1))
    ∙ ap (λ o. found_first o (value_in key (v.records p)) (found_from v key n (next v p))) here
    ∙ ap (found_first None (value_in key (v.records p))) rest
    ∙ joined (value_in key (v.records p)) (value_in key (flat_map v.records xs))
    ∙ ap (λ q. Ok (option_or (value_in key (v.records q)) (value_in key (flat_map v.records xs)))) (sym path.0)
    ∙ ap Ok (sym (value_in-append key (v.records x) (flat_map v.records xs)))

-- ---- the plain map

-- a map of some keys has what the whole map has of each of these
pub kept : (m : Records) (f : List ℕ → Bool) (q : List ℕ) → f q ≡ true → get (retain_keys m f) q ≡ get m q
kept m f q e =
    get-retain_keys m f q (λ x h. ap f (sym (slice_cmp-IsAntisymmetric nat_cmp-IsAntisymmetric q x h)))
    ∙ ap (λ b. cond b (get m q) None) e

-- and nothing of any other
pub not_kept : (m : Records) (f : List ℕ → Bool) (q : List ℕ) → f q ≡ false → get (retain_keys m f) q ≡ None
not_kept m f q e =
    get-retain_keys m f q (λ x h. ap f (sym (slice_cmp-IsAntisymmetric nat_cmp-IsAntisymmetric q x h)))
    ∙ ap (λ b. cond b (get m q) None) e

module _ (one : OneListingLaw) (addresses : AddressLaw) (lookup : LookupLaw) (placed : PlacedLaw) where
  -- in an image of a listing, what is found is what the plain map of all records has, and no fault
  pub map_law : MapLaw
  unfolding view_of home_of look_up
  map_law bytes l key (P, path, i) =
      let v : View = view_of bytes in
      let sound : IsSound bytes = (sound_law bytes).0 (one bytes l (P, path, i)).0 in
      let r = are_in_range (header_of bytes) _ sound.fields sound.counts in
      let config : v.header.config ≡ l.config = ap (λ (h : Header). h.config) i.shown.header in
      let eS : buckets v ≡ size l = ap (λ (h : Header). h.buckets) i.shown.header in
      let eP : P ≡ page_count v = pages_are v l P path i.shown in
      let home : ℕ = home_of v key in
      let low : home < buckets v =
      ((addresses (initial v) (buckets v) (code_of key) home r.0.settings.initial.0 r.0.from_initial).0 refl).0 in
      let below : home < size l = omega arith in
      let follows : IsPath (next v) (1 + home) (path home) = i.shown.paths.follows home below in
      let own : (p : ℕ) → stands_in (path home) p ≡ true → (1 ≤ p) × (p < P) × (bucket v p ≡ home) =
      λ p there. i.shown.paths.own home p below there in
      let few : length (path home) ≤ page_count v =
      omega (arith, path_short (next v) (path home) (1 + home) P follows (λ p there. (own p there).1), eP) in
      let none : (p : ℕ) → stands_in (path home) p ≡ true → own_fault v home p ≡ None =
      λ p there. let o = own p there in
      own_none v home p sound.clean o.0 (omega (arith, o.1, eP)) o.2 in
      let listed : look_up v key ≡ Ok (value_in key (list_at l.lists home)) =
      along v key (path home) (page_count v) (1 + home) follows few none
      ∙ ap (λ xs. Ok (value_in key xs)) (i.shown.content home below) in
      let one_list : value_in key (list_at l.lists home) ≡ get (map_of (list_at l.lists home)) key =
      value_in-is key (list_at l.lists home) (get (map_of (list_at l.lists home)) key)
      (λ value. lookup (list_at l.lists home) key value (i.shown.listing.distinct home)) in
      let at : eqb (address l.config.initial (size l) (code_of key)) home ≡ true =
      eq-eqb (address l.config.initial (size l) (code_of key)) home
      (sym
      (ap (λ n. address n (buckets v) (code_of key))
      (ap (λ (s : Rattle.lh_addr.specs.Settings.Settings). s.initial) config)
      ∙ ap (λ n. address l.config.initial n (code_of key)) eS)) in
      listed
      ∙ ap Ok
      (one_list ∙ ap (λ m. get m key) (placed l home i.shown.listing below)
      ∙ kept (map_of (all_of l.lists)) (λ k. eqb (address l.config.initial (size l) (code_of k)) home) key
      at)

-- ---- what is found stands there

-- the value stands with the key in a page of bucket i that is one of some pages
record StandsIn (v : View) (key value : List ℕ) (i : ℕ) (pages : List ℕ) (p : ℕ) : Type 0 where
  among : stands_in pages p ≡ true
  own : bucket v p ≡ i
  faultless : own_fault v i p ≡ None
  there : Contains (v.records p) (record { key = key; value = value })

abbrev StandsSome : View → List ℕ → List ℕ → ℕ → List ℕ → Type 0
StandsSome v key value i pages = (p : ℕ) × StandsIn v key value i pages p

first_by : (v : View) (key value : List ℕ) (p : ℕ) (rest : List ℕ) (further : Result (Option (List ℕ)) ImageFault)
    (o : Option ImageFault) (w : Option (List ℕ)) → own_fault v (home_of v key) p ≡ o →
    value_in key (v.records p) ≡ w →
    bucket v p ≡ home_of v key →
    (own_fault v (home_of v key) p ≡ None → further ≡ Ok (Some value) →
    StandsSome v key value (home_of v key) rest) → found_first o w further ≡ Ok (Some value) →
    StandsSome v key value (home_of v key) (p ∷ rest)
unfolding stands_in
first_by v key value p rest further (Some f) w fault is own later e = absurd cc
first_by v key value p rest further None (Some x) fault is own later e =
    let same : x ≡ value = cc in (
      p,
      record {
        among = or_left (eqb p p) (list_any (λ q. eqb q p) rest) (eq-eqb p p refl);
        own = own;
        faultless = fault;
        there = value_in-stands key value (v.records p) (is ∙ ap Some same);
      },
    )
first_by v key value p rest further None None fault is own later e =
    let r = later fault e in (
      r.0,
      record {
        among = or_right (eqb p r.0) (list_any (λ q. eqb q r.0) rest) r.1.among;
        own = r.1.own;
        faultless = r.1.faultless;
        there = r.1.there;
      },
    )

not_found : (value : List ℕ) {G : Type 0} → ◌≡◌ {A = Result (Option (List ℕ)) ImageFault} (Ok None) (Ok (Some value)) →
    G
not_found value e = cc

no_fault : (value : List ℕ) (f : ImageFault) {G : Type 0} →
    ◌≡◌ {A = Result (Option (List ℕ)) ImageFault} (Err f) (Ok (Some value)) → G
no_fault value f e = cc

fault_free : (value : List ℕ) (o : Option ImageFault) (w : Option (List ℕ))
    (further : Result (Option (List ℕ)) ImageFault) → found_first o w further ≡ Ok (Some value) → o ≡ None
fault_free value None w further e = refl
fault_free value (Some f) w further e = no_fault value f e

stands_from : (v : View) (key value : List ℕ) (n p : ℕ) →
    (p ≢ 0 → own_fault v (home_of v key) p ≡ None → bucket v p ≡ home_of v key) →
    found_from v key n p ≡ Ok (Some value) → StandsSome v key value (home_of v key) (pages_from (next v) n p)
unfolding pages_from
stands_from v key value zero p own e = elim (cases_eq p 0) [
  | inl none ↦ not_found value (sym (found_end v key 0) ∙ ap (found_from v key 0) (sym none) ∙ e)
  | inr some ↦ no_fault value (Twice p) (sym (found_twice v key p some) ∙ e)
]
stands_from v key value (suc n) p own e = elim (cases_eq p 0) [
  | inl none ↦ not_found value (sym (found_end v key (suc n)) ∙ ap (found_from v key (suc n)) (sym none) ∙ e)
  | inr some ↦
      let step : found_first (own_fault v (home_of v key) p) (value_in key (v.records p))
      (found_from v key n (next v p)) ≡ Ok (Some value) =
      sym (found_more v key (suc n) n p refl some) ∙ e in
      let free : own_fault v (home_of v key) p ≡ None =
      fault_free value (own_fault v (home_of v key) p) (value_in key (v.records p)) (found_from v key n (next v p))
      step in
      let here : bucket v p ≡ home_of v key = own some free in
      rw (ne_eqb p 0 some)
      (first_by v key value p (pages_from (next v) n (next v p)) (found_from v key n (next v p))
      (own_fault v (home_of v key) p) (value_in key (v.records p)) refl refl here
      (λ good rest.
      stands_from v key value n (next v p) (λ more _. (next_within v (home_of v key) p good more).2 ∙ here)
      rest) step)
]

-- a bucket's first page without a fault is the bucket's
first_own : (v : View) (i : ℕ) → i < buckets v → own_fault v i (1 + i) ≡ None → bucket v (1 + i) ≡ i
unfolding own_fault bad_bucket
first_own v i low e =
    let rows = (none_first (head_rows_at v (1 + i) ++ rest_rows_at v i (1 + i))).0 e in
    let parts = or_parts _ _ (so_none _ _ rows.1.0) in
    own_by (bucket v (1 + i)) i (buckets v) low parts.0
  where
    own_by : (b i S : ℕ) → i < S → (leb (1 + i) S && not (eqb b (1 + i - 1))) ≡ false → b ≡ i
    own_by b i S low e = grind (arith, nat_tests)

-- a value that is found stands with the key in a page of the key's bucket
pub stands_law : AddressLaw → StandsLaw
unfolding look_up home_of
stands_law addresses v key value some from e =
    let home : ℕ = home_of v key in
    let low : home < buckets v = ((addresses (initial v) (buckets v) (code_of key) home some from).0 refl).0 in
    let r = stands_from v key value (page_count v) (1 + home) (λ _ good. first_own v home low good) e in
    (r.0, record { on_chain = r.1.among; own = r.1.own; faultless = r.1.faultless; there = r.1.there })

-- of bytes that were opened
pub stands_opened : StandsLaw → (bytes : List ℕ) (header : Header) (root : Extent) → IsOpenedImage bytes header root →
    (key value : List ℕ) → look_up (view_of bytes) key ≡ Ok (Some value) → Stands (view_of bytes) key value
unfolding view_of
stands_opened law bytes header root o key value e =
    let initial_is : header.config.initial ≡ initial (view_of bytes) = ap (λ (h : Header). h.config.initial) o.fields in
    let buckets_is : header.buckets ≡ buckets (view_of bytes) = ap (λ (h : Header). h.buckets) o.fields in
    law (view_of bytes) key value (omega (arith, o.in_range.settings.initial.0, initial_is))
    (omega (arith, o.in_range.from_initial, initial_is, buckets_is)) e

-- ---- the header of an image's listing

-- of an image that was opened, each field of the header is that of its listing's header
pub listed : {X : Type 0} (bytes : List ℕ) (header : Header) (root : Extent) → IsOpenedImage bytes header root →
    (field : Header → X) (l : Lists) → IsImage bytes l →
    (P : ℕ) × (field header ≡ field (header_for (header_of bytes).version l P))
listed bytes header root o field l image =
    let h = header_listed bytes l image in
    (h.0, ap field (o.fields ∙ h.1))
