-- Pages without a fault show their listing, and pages that show a listing have no fault.
use Rattle.std.proofs.Common.{◌≡◌, ◌≢◌, ℕ, zero, suc, ◌+◌, ◌-◌, ◌*◌, ◌<◌, ◌≤◌, true, false, cond, leb, List, [], length}
use Rattle.std.proofs.Common.{refl, sym, ap, ◌∙◌, ◌↔◌, arith}
use Rattle.std.specs.List.{All, IsDistinct, AllByRecursion, range_with_len, sum_by}
use Rattle.std.specs.Str.{bytes_eq}
use Rattle.std.proofs.lemmas.Bool.{not-false, not_from_true, eqb-true, eq-eqb}
use Rattle.std.proofs.lemmas.List.Sums.{sum_by-cons}
use Rattle.lh_addr.specs.Fnv.{code_of}
use Rattle.lh_addr.specs.Growth.{address}
use Rattle.lh_page.specs.Records.{IsRecord, keys_of}
use Rattle.lh_bucket.specs.Listing.{IsShape, IsHome, EachPlace, size, list_at, count_of}
use Rattle.lh_image.specs.declared.header.Header.{Header}
use Rattle.lh_image.specs.Chains.{stands_in, IsCovered}
use Rattle.lh_image.specs.Faults.{bad_kind, bad_level, bad_used, bad_total, has_bad_slot, has_misfit, misfits}
use Rattle.lh_image.specs.Faults.{is_at_home, keys_before}
use Rattle.lh_image.specs.Header.{AreInRange}
use Rattle.lh_image.specs.Image.{Shows, listing_of}
use Rattle.lh_image.specs.View.{View, IsView, initial, capacity, buckets, page_count, record_count, numbers, used}
use Rattle.lh_image.specs.View.{bucket, next, chain_of}
use Rattle.lh_image.proofs.Faults.Keys.{no_misfit, at_home_from, home_tests}
use Rattle.lh_image.proofs.Paths.Linking.{Clean, linked_from_clean, on_from_clean, clean_bucket_from, clean_next_from}
use Rattle.lh_image.proofs.Paths.Linking.{clean_twice_from, clean_chains_from}
use Rattle.lh_image.proofs.Images.Listings.{chain_records, size-listing_of, list_at-listing_of, count-listing_of}
use Rattle.lh_image.proofs.Images.Listings.{home_by, records_by, records_along, distinct_by}
use Rattle.lh_image.proofs.Faults.Misfits.{chain_misfits}
use Rattle.lh_image.proofs.Paths.Packing.{used_rule, packed, IsFilled, filled}
use Rattle.lh_image.proofs.Bytes.PageTests.{kind_rule, kind_above, two_above}
use Rattle.lh_image.proofs.Paths.ShortPaths.{paths_are_chains}
use Rattle.lh_image.proofs.Faults.Sound.{IsClean}
use Rattle.lh_image.proofs.Paths.Walks.{begins, covered_chains, covered_same, linked_from_covered}

-- the chain of bucket i has no misfit: its records are at home, and no key stands twice
pub bucket_fits : (v : View) (covered : IsCovered (next v) (bucket v) (buckets v) (page_count v) (chain_of v)) (i : ℕ) →
    i < buckets v →
    ((p : ℕ) → stands_in (chain_of v i) p ≡ true → misfits (is_at_home v i) (keys_before v i p) (v.records p) ≡ false)
    ↔ (misfits (is_at_home v i) [] (chain_records v i) ≡ false)
bucket_fits v covered i l =
    chain_misfits (next v) (is_at_home v i) v.records (1 + i) [] (chain_of v i) (covered.follows i l)

-- the records of bucket i are at home, and have no key twice
abbrev pub HasFitting : View → ℕ → Type 0
HasFitting v i =
    AllByRecursion (λ r. is_at_home v i r.key ≡ true) (chain_records v i)
    × IsDistinct bytes_eq (keys_of (chain_records v i))

-- where no page has a misfit, the records of a bucket are at home and have no key twice
pub fitting_from : (v : View) (covered : IsCovered (next v) (bucket v) (buckets v) (page_count v) (chain_of v)) →
    Clean (page_count v) (has_misfit v) → (i : ℕ) → i < buckets v → HasFitting v i
unfolding has_misfit
fitting_from v covered clean i m =
    (no_misfit (is_at_home v i) (chain_records v i)).0
    ((bucket_fits v covered i m).0 (λ p here. let o = covered.own i p m here in rw o.2 at (clean p o.0 o.1)))

-- a listing of records that are at home
pub shape_from : (v : View) → AreInRange v.header → IsShape v.header.config (size (listing_of v)) (listing_of v).lists
shape_from v r =
    let size_is = size-listing_of v in
    rw size_is (record { from_initial = r.from_initial; to_max = r.to_max; each = size_is })

-- where each bucket's records are at home, without a key twice, the records of the listing are at home
pub home_from : (v : View) → ((i : ℕ) → i < buckets v → HasFitting v i) →
    EachPlace (IsHome (initial v) (size (listing_of v))) (listing_of v).lists
home_from v fitting = rw (size-listing_of v) (home_by (listing_of v) (initial v) (buckets v) (λ i l.
    let m : i < buckets v = rw (size-listing_of v) at l in
    rw (list_at-listing_of v i m)
    (at_home_from (λ k. address (initial v) (buckets v) (code_of k)) i (chain_records v i) (fitting i m).0)))

-- where each bucket's records are at home, without a key twice, no list of the listing has a key twice
pub distinct_from : (v : View) → ((i : ℕ) → i < buckets v → HasFitting v i) → (i : ℕ) →
    IsDistinct bytes_eq (keys_of (list_at (listing_of v).lists i))
distinct_from v fitting =
    distinct_by (listing_of v)
    (λ i l. let m : i < buckets v = rw (size-listing_of v) at l in rw (list_at-listing_of v i m) (fitting i m).1)

module _ (v : View) (view : IsView v) (r : AreInRange v.header) (clean : IsClean v)
    (are : (p : ℕ) → 1 ≤ p → p < page_count v → All IsRecord (v.records p)) where
  -- the chains of pages without a fault are paths, and each page stands on that of its bucket
  pub clean_covered : IsCovered (next v) (bucket v) (buckets v) (page_count v) (chain_of v)
  clean_covered =
      let some : buckets v < page_count v = omega (arith, r.enough) in
      covered_chains (next v) (bucket v) (buckets v) (page_count v) view.none some
      (linked_from_clean v some clean.numbers_are clean.nexts clean.twice) (on_from_clean v clean.on_chains)

  -- pages without a fault show the listing of their View, by the chains of its buckets
  pub shows_from_clean : Shows v (listing_of v) (page_count v) (chain_of v)
  unfolding bad_kind bad_level bad_used bad_total listing_of
  shows_from_clean =
      let S : ℕ = buckets v in
      let P : ℕ = page_count v in
      let size_is : size (listing_of v) ≡ S = size-listing_of v in
      let some : S < P = omega (arith, r.enough) in
      let linked = linked_from_clean v some clean.numbers_are clean.nexts clean.twice in
      let covered = clean_covered in
      let fills : (p : ℕ) → 1 ≤ p → p < P →
      (used v p ≤ capacity v) × (next v p ≢ 0 → used v p ≡ capacity v) × ((v.head p).kind ≡ 2 → 1 ≤ used v p) =
      λ p low high. (used_rule (capacity v) (used v p) (next v p) (v.head p).kind).0 (clean.used p low high) in
      let kinds =
      λ (p : ℕ) (low : 1 ≤ p) (high : p < P).
      (kind_rule (v.head p).kind p S (v.head p).clear).0 (clean.kinds p low high) in
      let total : count_of (listing_of v).lists ≡ record_count v =
      count-listing_of v view covered ∙ eqb-true _ _ (not-false _ clean.total) in
      record {
        listing = record {
          config = r.settings;
          shape = shape_from v r;
          records = records_by (listing_of v) (λ i l.
              let m : i < S = rw size_is at l in
              rw (list_at-listing_of v i m)
              (records_along v.records (chain_of v i) (λ p here. let o = covered.own i p m here in are p o.0 o.1)));
          home = home_from v (fitting_from v covered clean.fitting);
          distinct = distinct_from v (fitting_from v covered clean.fitting);
        };
        few = r.few;
        room = r.room;
        header = rw (size_is, total) refl;
        kinds = λ p low high. rw size_is (kinds p low high).0;
        levels = λ p low high. rw size_is (eqb-true _ _ (not-false _ (clean.levels p low high)));
        paths = rw size_is covered;
        content = λ i l. sym (list_at-listing_of v i (rw size_is at l));
        packed = λ i l.
            let m : i < S = rw size_is at l in
            packed (next v) (bucket v) S P (capacity v) v.records linked (chain_of v i) (1 + i) (omega arith)
            (omega arith) (covered.follows i m)
            (λ q low high.
            let u = fills q low high in
            let k = kinds q low high in
            record {
              most = rw (view.counted q low) u.0;
              full = λ more. rw (view.counted q low) (u.1 more);
              some = λ above. rw (view.counted q low) (u.2 (k.0 ∙ kind_above q S above));
            });
      }

-- ---- and back

sum_most : (f : ℕ → ℕ) (b a n : ℕ) → ((p : ℕ) → a ≤ p → p < a + n → f p ≤ b) → sum_by f (range_with_len a n) ≤ b * n
sum_most f b a zero all = omega arith
sum_most f b a (suc n) all =
    let here = all a (omega arith) (omega arith) in
    let rest = sum_most f b (a + 1) n (λ p low high. all p (omega arith) (omega arith)) in
    let e : b * suc n ≡ b * n + b = grind arith in
    omega (arith, sum_by-cons f a (range_with_len (a + 1) n))

module _ (v : View) (view : IsView v) (path : ℕ → List ℕ) (i : Shows v (listing_of v) (page_count v) path)
    (own : (p : ℕ) → 1 ≤ p → p < page_count v → ((v.head p).clear ≡ true) × (has_bad_slot v p ≡ false)) where
  -- where pages show their listing, each stands on the path of its bucket
  pub shown_covered : IsCovered (next v) (bucket v) (buckets v) (page_count v) path
  shown_covered = rw (size-listing_of v) at i.paths

  -- where pages show their listing, the numbers of the header are in their ranges
  pub shown_range : AreInRange v.header
  unfolding listing_of
  shown_range =
      let S : ℕ = buckets v in
      let c = shown_covered in
      let low_size : initial v ≤ S = rw (size-listing_of v) at i.listing.shape.from_initial in
      let first : S - 1 < S = omega (arith, i.listing.config.initial.0) in
      let last : 1 + (S - 1) < page_count v =
      (c.own (S - 1) (1 + (S - 1)) first
      (begins (next v) (path (S - 1)) (1 + (S - 1)) (c.follows (S - 1) first) (λ e. omega arith))).1 in
      record {
        settings = i.listing.config;
        room = i.room;
        from_initial = low_size;
        to_max = rw (size-listing_of v) at i.listing.shape.to_max;
        enough = omega arith;
        few = i.few;
      }

  fills : (p : ℕ) → 1 ≤ p → p < page_count v → IsFilled (next v) (λ r. length (v.records r)) (capacity v) (buckets v) p
  unfolding listing_of
  fills p low high =
      let c = shown_covered in
      let at = c.all p low high in
      let linked = linked_from_covered (next v) (bucket v) (buckets v) (page_count v) path view.none c in
      filled (next v) (bucket v) (buckets v) (page_count v) (capacity v) v.records linked (path (bucket v p))
      (1 + bucket v p) (omega arith) (omega (arith, at.0, shown_range.enough)) (c.follows (bucket v p) at.0)
      (i.packed (bucket v p) (rw (size-listing_of v) at.0)) (λ more. absurd (omega (arith, at.0))) p at.1

  total_is : sum_by (used v) (numbers (page_count v)) ≡ record_count v
  total_is =
      let c = shown_covered in
      let same : (j : ℕ) → j < buckets v → chain_of v j ≡ path j =
      paths_are_chains (next v) (bucket v) (buckets v) (page_count v) path c in
      sym
      (count-listing_of v view
      (covered_same (next v) (bucket v) (buckets v) (page_count v) path (chain_of v) same c))
      ∙ sym (ap (λ (h : Header). h.records) i.header)

  -- pages that show their listing have slots for as many records as the header says
  pub records_fit : record_count v ≤ capacity v * (page_count v - 1)
  unfolding numbers
  records_fit =
      let most =
      sum_most (used v) (capacity v) 1 (page_count v - 1)
      (λ p low high. omega (arith, (fills p low (omega arith)).most, view.counted p low)) in
      rw total_is at most

  -- pages that show their listing have no fault, where their reserved bytes are zeros and no slot is bad
  pub clean_from_shows : IsClean v
  unfolding listing_of bad_kind bad_level bad_used bad_total has_misfit
  clean_from_shows =
      let S : ℕ = buckets v in
      let P : ℕ = page_count v in
      let sz : size (listing_of v) ≡ S = size-listing_of v in
      let c = shown_covered in
      let same : (j : ℕ) → j < S → chain_of v j ≡ path j = paths_are_chains (next v) (bucket v) S P path c in
      let covered = covered_same (next v) (bucket v) S P path (chain_of v) same c in
      let linked = linked_from_covered (next v) (bucket v) S P path view.none c in
      let kinds : (p : ℕ) → 1 ≤ p → p < P → (v.head p).kind ≡ cond (leb p S) 1 2 =
      λ p low high. rw sz at (i.kinds p low high) in
      record {
        kinds = λ p low high. (kind_rule (v.head p).kind p S (v.head p).clear).1 (kinds p low high, (own p low high).0);
        numbers_are = clean_bucket_from v (λ p low high. (c.all p low high).0) linked;
        levels = λ p low high. not_from_true _ (eq-eqb _ _ (rw sz at (i.levels p low high)));
        total = not_from_true _ (eq-eqb _ _ total_is);
        used = λ p low high.
            let f = fills p low high in
            let n = view.counted p low in
            (used_rule (capacity v) (used v p) (next v p) (v.head p).kind).1 (
              rw (← n) f.most,
              (λ more. rw (← n) (f.full more)),
              λ two. rw (← n) (f.some (two_above p S (v.head p).kind (kinds p low high) two)),
            );
        nexts = clean_next_from v linked;
        twice = clean_twice_from v view linked;
        on_chains = clean_chains_from v (λ p low high. let at = covered.all p low high in (bucket v p, at.0, at.1));
        slots = λ p low high. (own p low high).1;
        fitting = λ p low high.
            let at = covered.all p low high in
            let j : ℕ = bucket v p in
            let li : list_at (listing_of v).lists j ≡ chain_records v j = list_at-listing_of v j at.0 in
            let home = rw (li, sz) at (i.listing.home j) in
            let once = rw li at (i.listing.distinct j) in
            let none =
            (no_misfit (is_at_home v j) (chain_records v j)).1
            (home_tests (λ k. address (initial v) (buckets v) (code_of k)) j (chain_records v j) home, once) in
            (bucket_fits v covered j at.0).1 none p at.1;
      }
