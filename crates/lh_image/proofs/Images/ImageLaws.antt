-- Bytes have no fault exactly where they are an image of a listing, and then of that one alone.
use Rattle.std.proofs.Common.{◌≡◌, ◌≢◌, ℕ, ◌*◌, ◌<◌, ◌≤◌, true, false, ◌||◌, ltb, leb, List, length, refl, ◌↔◌, arith}
use Rattle.std.proofs.lemmas.Bool.{le-leb, leb-true, ne_eqb}
use Rattle.std.proofs.lemmas.Bool.Decides.{nat_tests}
use Rattle.std.proofs.lemmas.List.FromFn.{length-map-range_with_len}
use Rattle.std.proofs.Math.Nat.{mul-le-mul_left}
use Rattle.lh_page.specs.declared.format.Format.{Format}
use Rattle.lh_page.specs.PageFields.{pairs_of, used_of}
use Rattle.lh_page.specs.PageLaws.{AreBytes, FaultlessLaw, ReadBackLaw}
use Rattle.lh_page.specs.PageTable.{IsPage, IsWritable}
use Rattle.lh_image.specs.Faults.{bad_kind, bad_used, has_bad_slot, is_short, has_trailing}
use Rattle.lh_image.specs.Header.{AreInRange}
use Rattle.lh_image.specs.Image.{IsImageBy, ImageLaw, OneListingLaw, listing_of}
use Rattle.lh_image.specs.Layout.{header_of, page, page_at, view_of}
use Rattle.lh_image.specs.Version.{format_of, page_bytes, version_of}
use Rattle.lh_image.specs.View.{View, IsView, buckets, capacity, page_count, used, chain_of}
use Rattle.lh_image.proofs.Bytes.Fitting.{record_from_fits}
use Rattle.lh_image.proofs.Bytes.Header.{header_spelled, header_tests, version_shown}
use Rattle.lh_image.proofs.Bytes.HeaderTests.{are_in_range, counts_fit, no_bad_field}
use Rattle.lh_image.proofs.Images.Listings.{pages_are, listing_is}
use Rattle.lh_image.proofs.Paths.Packing.{used_rule}
use Rattle.lh_image.proofs.Bytes.PageTests.{kind_rule, page_from_tests, tests_from_page, page_is_bytes, length-page}
use Rattle.lh_image.proofs.Images.Shown.{shows_from_clean, clean_from_shows, shown_range, records_fit}
use Rattle.lh_image.proofs.Faults.Sound.{IsSound, sound_law}

-- of this many bytes there are to be at least `least`, and exactly `all`
pub whole_rule : (n least all : ℕ) → least ≤ all →
    ((ltb n least || ltb n all ≡ false) × (ltb all n ≡ false)) ↔ (n ≡ all)
whole_rule n least all low =
    (λ (e, f). grind (arith, nat_tests), λ e. (grind (arith, nat_tests), grind (arith, nat_tests)))

-- one page or more have at least the bytes of one
pub some_pages : (size P : ℕ) → 1 ≤ P → size ≤ size * P
some_pages size P some = let more : size * 1 ≤ size * P = mul-le-mul_left size some in omega (arith, more)

-- ---- the View that bytes give

-- in what bytes show the header is on no chain, and a page has as many records as its head says
pub is_view : (bytes : List ℕ) → IsView (view_of bytes)
unfolding view_of pairs_of
is_view bytes = record {
  none = refl;
  counted = λ p low. rw (used, ne_eqb p 0 (λ z. omega arith)) (length-map-range_with_len _ 0 (used_of (page bytes p)));
}

module _ (faultless : FaultlessLaw) (bytes : List ℕ) (fit : AreBytes bytes) (sound : IsSound bytes) where
  -- bytes without a fault are an image of the listing that they show, by the chains of its buckets
  pub image_from_sound : IsImageBy bytes (listing_of (view_of bytes)) (page_count (view_of bytes))
      (chain_of (view_of bytes))
  unfolding view_of is_short has_trailing bad_kind bad_used page_bytes
  image_from_sound =
      let v : View = view_of bytes in
      let f : Format = format_of (version_of bytes) in
      let size : ℕ = page_bytes (version_of bytes) in
      let r = are_in_range (header_of bytes) _ sound.fields sound.counts in
      let room : capacity v ≤ f.slots = rw (version_shown bytes) at r.0.room in
      let whole : length bytes ≡ size * page_count v =
      (whole_rule (length bytes) size (size * page_count v)
      (some_pages size (page_count v) (omega (arith, r.0.enough)))).0 (sound.long_enough, sound.ended) in
      let shown : (p : ℕ) → 1 ≤ p → p < page_count v →
      IsPage f (page bytes p) (page_at bytes p) × IsWritable f (page_at bytes p) =
      λ p low high.
      let other : p ≢ 0 = λ z. omega arith in
      let kind =
      rw (ne_eqb p 0 other) at
      ((kind_rule (v.head p).kind p (buckets v) (v.head p).clear).0 (sound.clean.kinds p low high)) in
      let few =
      rw (ne_eqb p 0 other) at
      ((used_rule (capacity v) (v.head p).used (v.head p).next (v.head p).kind).0
      (sound.clean.used p low high)).0 in
      page_from_tests faultless f (page bytes p) (page_is_bytes bytes p fit)
      (length-page bytes p (page_count v) whole high) (leb p (buckets v)) kind.0 kind.1
      (omega (arith, few, room)) (sound.clean.slots p low high) in
      record {
        whole = whole;
        spelled = header_spelled bytes fit (leb-true size (length bytes) sound.header) sound.magic r.1;
        pages = shown;
        shown =
            shows_from_clean v (is_view bytes) r.0 sound.clean
            (λ p low high k d below.
            record_from_fits (version_of bytes) _ ((shown p low high).1.pairs.records k d below));
      }

module _ (read_back : ReadBackLaw) where
  sound_from_image : (bytes : List ℕ) (path : ℕ → List ℕ) →
      IsImageBy bytes (listing_of (view_of bytes)) (page_count (view_of bytes)) path → IsSound bytes
  unfolding is_short has_trailing view_of
  sound_from_image bytes path i =
      let v : View = view_of bytes in
      let size : ℕ = page_bytes (version_of bytes) in
      let own : (p : ℕ) → 1 ≤ p → p < page_count v → ((v.head p).clear ≡ true) × (has_bad_slot v p ≡ false) =
      λ p low high.
      let t = tests_from_page read_back (format_of (version_of bytes)) (page bytes p) (i.pages p low high) in
      rw (ne_eqb p 0 (λ z. omega arith)) t in
      let r : AreInRange v.header = shown_range v (is_view bytes) path i.shown own in
      let head = header_tests bytes i.spelled in
      let low : size ≤ size * page_count v = some_pages size (page_count v) (omega (arith, r.enough)) in
      let tests = (whole_rule (length bytes) size (size * page_count v) low).1 i.whole in
      record {
        magic = head.0;
        header = le-leb size (length bytes) (omega (arith, i.whole, low));
        fields = no_bad_field (header_of bytes) _ r head.1;
        counts = counts_fit (header_of bytes) r (records_fit v (is_view bytes) path i.shown own);
        long_enough = tests.0;
        ended = tests.1;
        clean = clean_from_shows v (is_view bytes) path i.shown own;
      }

  -- An image has no fault, and no other listing.
  pub one_listing_law : OneListingLaw
  one_listing_law bytes l (P, path, i) =
      let e = listing_is (view_of bytes) l P path i.shown in
      let f = pages_are (view_of bytes) l P path i.shown in
      let j : IsImageBy bytes (listing_of (view_of bytes)) (page_count (view_of bytes)) path = rw (e, f) at i in
      ((sound_law bytes).1 (sound_from_image bytes path j), e)

-- Bytes have no fault exactly where they are an image of a listing, and then of that one alone.
pub image_law : ReadBackLaw → FaultlessLaw → ImageLaw
image_law read_back faultless bytes l fit = (
  one_listing_law read_back bytes l,
  λ (none, e). (
    page_count (view_of bytes),
    chain_of (view_of bytes),
    rw e (image_from_sound faultless bytes fit ((sound_law bytes).0 none)),
  ),
)
