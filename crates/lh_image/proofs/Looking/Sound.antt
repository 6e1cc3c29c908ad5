-- An image whose records were looked at where they stand
use Rattle.std.specs.List.{sum_by}
use Rattle.std.proofs.Common.{◌≡◌, ◌≢◌, ℕ, ◌<◌, ◌≤◌, Bool, true, false, not, eqb, List, [], ◌∷◌, ◌++◌}
use Rattle.std.proofs.Common.{length, None, refl, sym, ap, subst, ◌∙◌, inl, inr}
use Rattle.std.proofs.Common.{◌+◌, ◌-◌, arith}
use Rattle.std.specs.List.{AllByRecursion, flat_map, list_any, range_with_len}
use Rattle.std.proofs.lemmas.Bool.{eq-eqb, eqb-true, false≢true, not-false, not_from_true, or_cases, or_from, or_left}
use Rattle.std.proofs.lemmas.Bool.{or_parts, or_right}
use Rattle.std.proofs.lemmas.List.Concat.{flat_map-cons}
use Rattle.std.proofs.lemmas.List.Folds.{list_any-append}
use Rattle.lh_addr.specs.Extent.{Extent}
use Rattle.lh_page.specs.declared.pair.Pair.{Pair}
use Rattle.lh_page.specs.PageLaws.{AreBytes}
use Rattle.lh_image.specs.declared.checked.index.PageIndex.{PageIndex}
use Rattle.lh_image.specs.declared.header.Header.{Header}
use Rattle.lh_image.specs.Chains.{IsCovered, IsLinked, IsPath, stands_in}
use Rattle.lh_image.specs.Checked.{IsChecked}
use Rattle.lh_image.specs.Faults.{at_head, bad_bucket, bad_kind, bad_level, bad_next, bad_total, bad_used}
use Rattle.lh_image.specs.Faults.{first_fault_of}
use Rattle.lh_image.specs.Faults.{has_bad_slot, has_misfit, header_rows, image_fault, is_at_home, is_short}
use Rattle.lh_image.specs.Faults.{has_trailing, misfits, page_fault, page_rows, size_rows}
use Rattle.lh_image.specs.Image.{ImageLaw, listing_of}
use Rattle.lh_image.specs.Layout.{header_of, image_bytes, view_of}
use Rattle.lh_image.specs.LookUp.{IsOpenedImage, has_stranger, head_rows_at, own_fault, rest_rows_at}
use Rattle.lh_image.specs.Plain.{AreDistinctChains, ArePlain, IsIndexOf}
use Rattle.lh_image.specs.Version.{page_bytes, version_of}
use Rattle.lh_image.specs.View.{View, bucket, buckets, chain_of, links, next, numbers, page_count, record_count}
use Rattle.lh_image.proofs.Faults.FirstAnswers.{first_behind, none_first}
use Rattle.lh_image.proofs.Faults.Keys.{no_misfit}
use Rattle.lh_image.proofs.Faults.Sound.{IsClean, clean_law}
use Rattle.lh_image.proofs.Images.ImageLaws.{is_view, some_pages, whole_rule}
use Rattle.lh_image.proofs.Images.Listings.{chain_records}
use Rattle.lh_image.proofs.Images.Shown.{bucket_fits}
use Rattle.lh_image.proofs.Looking.Steps.{pages_is, so_none, version_is}
use Rattle.lh_image.proofs.OfReading.Whole.{bytes_same}
use Rattle.lh_image.proofs.Paths.Linking.{Clean, bucket_rule, clean_chains_from, clean_twice_from, next_rule}
use Rattle.lh_image.proofs.Paths.Totals.{AreOwnPaths, covered_by_count}
use Rattle.lh_image.proofs.Paths.Walks.{linked_from_covered}

-- ---- records at home

-- records among which none is a stranger are at home
pub all_home : (home : List ℕ → Bool) (rs : List Pair) → list_any (λ (r : Pair). not (home r.key)) rs ≡ false →
    AllByRecursion (λ r. home r.key ≡ true) rs
all_home home [] e = tt
all_home home (r ∷ rs) e =
    let p = or_parts (not (home r.key)) (list_any (λ (r : Pair). not (home r.key)) rs) e in
    (not-false (home r.key) p.0, all_home home rs p.1)

-- where no page has one, none stands along them
pub none_along : (test : Pair → Bool) (rec : ℕ → List Pair) (xs : List ℕ) →
    ((p : ℕ) → stands_in xs p ≡ true → list_any test (rec p) ≡ false) → list_any test (flat_map rec xs) ≡ false
unfolding stands_in
none_along test rec [] none = refl
none_along test rec (x ∷ xs) none =
    let here : list_any test (rec x) ≡ false =
    none x (or_left (eqb x x) (list_any (λ q. eqb q x) xs) (eq-eqb x x refl)) in
    let rest : list_any test (flat_map rec xs) ≡ false =
    none_along test rec xs (λ p h. none p (or_right (eqb x p) (list_any (λ q. eqb q p) xs) h)) in
    ap (list_any test) (flat_map-cons rec x xs) ∙ list_any-append test (rec x) (flat_map rec xs)
    ∙ or_from (list_any test (rec x)) (list_any test (flat_map rec xs)) here rest

-- ---- a page that has no fault by itself

-- none of the conditions holds of it
pub record IsFaultless (v : View) (p : ℕ) : Type 0 where
  pub kind : at_head bad_kind v p ≡ false
  pub number : at_head bad_bucket v p ≡ false
  pub level : at_head bad_level v p ≡ false
  pub filled : at_head bad_used v p ≡ false
  pub follows : bad_next (links v) p ≡ false
  pub slots : has_bad_slot v p ≡ false
  pub own : has_stranger v (bucket v p) p ≡ false

pub faultless_is : (v : View) (p : ℕ) → own_fault v (bucket v p) p ≡ None → IsFaultless v p
unfolding own_fault
faultless_is v p e =
    let (kind, (number, (level, (filled, (follows, (slots, (own, _))))))) =
    (none_first (head_rows_at v p ++ rest_rows_at v (bucket v p) p)).0 e in
    record {
      kind = so_none _ _ kind;
      number = so_none _ _ number;
      level = so_none _ _ level;
      filled = so_none _ _ filled;
      follows = so_none _ _ follows;
      slots = so_none _ _ slots;
      own = so_none _ _ own;
    }

-- ---- the whole

header_same : (bytes : List ℕ) → (view_of bytes).header ≡ header_of bytes
unfolding view_of
header_same bytes = refl

module _ (bytes : List ℕ) (header : Header) (root : Extent) (index : List PageIndex)
    (o : IsOpenedImage bytes header root) (plain : ArePlain bytes header.pages index header.records)
    (size : length index ≡ header.pages) where
  same_header : header ≡ (view_of bytes).header
  same_header = o.fields ∙ sym (header_same bytes)

  -- the index has the entries of the pages
  pub index_is : IsIndexOf bytes header.version index
  index_is = record {
    own = version_is bytes header root o;
    good = λ p low high. (plain.plain p low (omega (arith, high, size))).good;
  }

  -- no page has a fault by itself
  pub each_faultless : (p : ℕ) → 1 ≤ p → p < page_count (view_of bytes) → IsFaultless (view_of bytes) p
  each_faultless p low high =
      faultless_is (view_of bytes) p
      (plain.plain p low (omega (arith, high, pages_is bytes header root o))).faultless

  -- there are as many records as the header says
  pub total_is : bad_total (view_of bytes) ≡ false
  unfolding bad_total numbers
  total_is =
      let v : View = view_of bytes in
      let records : header.records ≡ record_count v = ap (λ (h : Header). h.records) same_header in
      let counted = rw (pages_is bytes header root o) at plain.counted in
      not_from_true _ (eq-eqb _ (record_count v) (sym counted ∙ records))

  -- each page is of a bucket that the file has
  within_buckets : (p : ℕ) → 1 ≤ p → p < page_count (view_of bytes) → bucket (view_of bytes) p < buckets (view_of bytes)
  unfolding bad_bucket
  within_buckets p low high =
      let v : View = view_of bytes in
      ((bucket_rule (bucket v p) p (buckets v)).0 (each_faultless p low high).number).1

  -- the head of a chain is of its bucket
  head_own : (i : ℕ) → i < buckets (view_of bytes) → 1 + i < page_count (view_of bytes) →
      bucket (view_of bytes) (1 + i) ≡ i
  unfolding bad_bucket
  head_own i less within =
      let v : View = view_of bytes in
      let own = each_faultless (1 + i) (omega arith) within in
      let r = (bucket_rule (bucket v (1 + i)) (1 + i) (buckets v)).0 own.number in
      omega (arith, r.0 (omega arith))

  -- and so are the pages that follow
  path_own : (xs : List ℕ) (p i : ℕ) → IsPath (next (view_of bytes)) p xs →
      (p ≢ 0 → (p < page_count (view_of bytes)) × (bucket (view_of bytes) p ≡ i)) → (q : ℕ) →
      stands_in xs q ≡ true → (1 ≤ q) × (q < page_count (view_of bytes)) × (bucket (view_of bytes) q ≡ i)
  unfolding stands_in bad_next
  path_own [] p i path start q here = absurd (false≢true here)
  path_own (x ∷ xs) p i path start q here =
      let v : View = view_of bytes in
      let at = start (λ z. omega (arith, path.1, z)) in
      elim (or_cases (eqb x q) (list_any (λ y. eqb y q) xs) here) [
        | inl first ↦
            let same : p ≡ q = sym path.0 ∙ eqb-true x q first in (
              omega (arith, same, path.1),
              omega (arith, same, at.0),
              subst (λ k. bucket v k ≡ i) same at.1,
            )
        | inr later ↦
            path_own xs (next v p) i path.2
            (λ some.
            let on =
            (next_rule (next v p) (buckets v) (page_count v) (bucket v p) (bucket v (next v p))).0
            (each_faultless p path.1 at.0).follows some in
            (on.1, on.2 ∙ at.1)) q later
      ]

  module _ (apart : AreDistinctChains bytes header.buckets (length index - 1)) where
    heads_same : header.buckets ≡ buckets (view_of bytes)
    heads_same = ap (λ (h : Header). h.buckets) same_header

    own_paths :
        AreOwnPaths (next (view_of bytes)) (bucket (view_of bytes)) (buckets (view_of bytes))
        (page_count (view_of bytes)) (chain_of (view_of bytes))
    own_paths =
        let v : View = view_of bytes in
        let pages = pages_is bytes header root o in
        let follows : (i : ℕ) → i < buckets v → IsPath (next v) (1 + i) (chain_of v i) =
        λ i less. apart.follows i (omega (arith, less, heads_same)) in
        record {
          follows = follows;
          own = λ i p less here.
              let within : 1 + i < page_count v =
              omega (arith, less, heads_same, o.in_range.enough, pages) in
              path_own (chain_of v i) (1 + i) i (follows i less) (λ _. (within, head_own i less within)) p here;
        }

    -- each page stands on the chain of its bucket
    pub all_covered :
        IsCovered (next (view_of bytes)) (bucket (view_of bytes)) (buckets (view_of bytes))
        (page_count (view_of bytes)) (chain_of (view_of bytes))
    all_covered =
        let v : View = view_of bytes in
        covered_by_count (next v) (bucket v) (buckets v) (page_count v) (chain_of v) own_paths within_buckets
        (ap (λ n. sum_by (λ i. length (chain_of v i)) (range_with_len 0 n)) (sym heads_same) ∙ sym apart.counted
        ∙ ap (λ n. n - 1) (size ∙ pages_is bytes header root o))

    all_linked :
        IsLinked (next (view_of bytes)) (bucket (view_of bytes)) (buckets (view_of bytes)) (page_count (view_of bytes))
    all_linked =
        let v : View = view_of bytes in
        linked_from_covered (next v) (bucket v) (buckets v) (page_count v) (chain_of v) (is_view bytes).none all_covered

    -- the records of a chain are at home, and no key stands twice among them
    chain_fits : (i : ℕ) → i < buckets (view_of bytes) →
        misfits (is_at_home (view_of bytes) i) [] (chain_records (view_of bytes) i) ≡ false
    unfolding has_stranger
    chain_fits i less =
        let v : View = view_of bytes in
        let home : AllByRecursion (λ r. is_at_home v i r.key ≡ true) (chain_records v i) =
        all_home (is_at_home v i) (chain_records v i)
        (none_along (λ (r : Pair). not (is_at_home v i r.key)) v.records (chain_of v i) (λ p here.
        let its = all_covered.own i p less here in
        subst (λ j. list_any (λ (r : Pair). not (is_at_home v j r.key)) (v.records p) ≡ false) its.2
        (each_faultless p its.0 its.1).own)) in
        (no_misfit (is_at_home v i) (chain_records v i)).1
        (home, ((no_misfit (λ _. true) (chain_records v i)).0 (apart.new i (omega (arith, less, heads_same)))).1)

    no_misfits : Clean (page_count (view_of bytes)) (has_misfit (view_of bytes))
    unfolding has_misfit
    no_misfits p low high =
        let v : View = view_of bytes in
        let all = all_covered.all p low high in
        (bucket_fits v all_covered (bucket v p) all.0).1 (chain_fits (bucket v p) all.0) p all.1

    pub clean_is : IsClean (view_of bytes)
    clean_is = record {
      kinds = λ p low high. (each_faultless p low high).kind;
      numbers_are = λ p low high. (each_faultless p low high).number;
      levels = λ p low high. (each_faultless p low high).level;
      total = total_is;
      used = λ p low high. (each_faultless p low high).filled;
      nexts = λ p low high. (each_faultless p low high).follows;
      twice = clean_twice_from (view_of bytes) (is_view bytes) all_linked;
      on_chains =
          clean_chains_from (view_of bytes) (λ p low high.
          let all = all_covered.all p low high in (bucket (view_of bytes) p, all.0, all.1));
      slots = λ p low high. (each_faultless p low high).slots;
      fitting = no_misfits;
    }

    none_at_all : image_fault bytes ≡ None
    unfolding is_short has_trailing image_fault page_fault first_fault_of
    none_at_all =
        let v : View = view_of bytes in
        let size : ℕ = page_bytes (version_of bytes) in
        let some : 1 ≤ header.pages = omega (arith, o.in_range.enough) in
        let whole : length bytes ≡ image_bytes bytes = o.size ∙ bytes_same bytes header o.fields in
        let low : size ≤ image_bytes bytes =
        rw (bytes_same bytes header o.fields) at (some_pages size header.pages some) in
        let tests = (whole_rule (length bytes) size (image_bytes bytes) low).1 whole in
        let pages : page_count v ≢ 0 = λ z. omega (arith, some, pages_is bytes header root o, z) in
        first_behind (header_rows bytes) (size_rows bytes ++ page_rows v) o.faultless
        ∙ rw (tests.0, tests.1) ((clean_law v pages).1 clean_is)

    -- the bytes are an image of the listing that they show, and the index is theirs
    pub checked_is : ImageLaw → AreBytes bytes → IsChecked bytes header root index
    checked_is law fit = record {
      opened = o;
      image = (law bytes (listing_of (view_of bytes)) fit).1 (none_at_all, refl);
      pages = record { size = size; pages = λ p low high. (plain.plain p low high).good.kept };
    }
