-- An image has the pages that its listing's packed chains make, so the listing's census is the image's.
use Rattle.std.proofs.Common.{◌≡◌, ℕ, zero, suc, ◌+◌, ◌-◌, ◌<◌, ◌≤◌, List, [], ◌∷◌, ◌++◌, length, map, refl, sym, ap}
use Rattle.std.proofs.Common.{◌∙◌, arith}
use Rattle.std.specs.List.{flat_map, range_with_len, sum_by}
use Rattle.std.proofs.lemmas.List.{length-map}
use Rattle.std.proofs.lemmas.List.Concat.{flat_map-cons}
use Rattle.std.proofs.lemmas.List.Sums.{sum_by-cons}
use Rattle.lh_addr.specs.Growth.{level, pointer}
use Rattle.lh_page.specs.declared.pair.Pair.{Pair}
use Rattle.lh_page.specs.PackedList.{PackingLaw, joined}
use Rattle.lh_bucket.specs.Listing.{Lists, size, list_at, count_of}
use Rattle.lh_image.specs.Canonical.{overflow_before, page_count_in, page_total, pages_in}
use Rattle.lh_image.specs.Census.{census_of, longest_before}
use Rattle.lh_image.specs.declared.header.Header.{Header}
use Rattle.lh_image.specs.Chains.{IsPath}
use Rattle.lh_image.specs.Counted.{CensusLaw, counted, longest_chain}
use Rattle.lh_image.specs.Image.{Shows}
use Rattle.lh_image.specs.Layout.{view_of}
use Rattle.lh_image.specs.View.{View, initial, buckets, page_count, record_count, bucket, next, chain_of}
use Rattle.lh_image.proofs.Images.Listings.{pages_are}
use Rattle.lh_image.proofs.Paths.Totals.{sum_covered}
use Rattle.lh_image.proofs.Paths.ShortPaths.{paths_are_chains}

-- records of pages, one page after another
joined_pages : (rec : ℕ → List Pair) (xs : List ℕ) → joined (map rec xs) ≡ flat_map rec xs
joined_pages rec [] = refl
joined_pages rec (x ∷ xs) =
    flat_map-cons (λ page. page) (rec x) (map rec xs) ∙ ap (λ (rs : List Pair). rec x ++ rs) (joined_pages rec xs)
    ∙ sym (flat_map-cons rec x xs)

sum_ones : (xs : List ℕ) → sum_by (λ _. 1) xs ≡ length xs
sum_ones [] = refl
sum_ones (x ∷ xs) = sum_by-cons (λ _. 1) x xs ∙ omega (arith, sum_ones xs)

ones_below : (a n : ℕ) → sum_by (λ _. 1) (range_with_len a n) ≡ n
ones_below a zero = refl
ones_below a (suc n) = sum_by-cons (λ _. 1) a (range_with_len (a + 1) n) ∙ omega (arith, ones_below (a + 1) n)

-- the sum over one number more
sum_more : (f : ℕ → ℕ) (a n j : ℕ) → a + n ≡ j →
    sum_by f (range_with_len a (suc n)) ≡ sum_by f (range_with_len a n) + f j
sum_more f a zero j e =
    let same : a ≡ j = omega arith in sum_by-cons f a (range_with_len (a + 1) zero) ∙ rw same (omega arith)
sum_more f a (suc n) j e =
    omega (
      arith,
      sum_by-cons f a (range_with_len (a + 1) (suc n)),
      sum_by-cons f a (range_with_len (a + 1) n),
      sum_more f (a + 1) n j (omega arith),
    )

module _ (packing : PackingLaw) (v : View) (l : Lists) (P : ℕ) (path : ℕ → List ℕ) (image : Shows v l P path) where
  -- the path of a bucket has as many pages as its packed list
  length-path : (i : ℕ) → i < size l → length (path i) ≡ page_count_in l i
  unfolding page_count_in
  length-path i below =
      let capacity = image.listing.config.capacity in
      let pages : map (v.records) (path i) ≡ pages_in l i =
      (packing l.config.capacity (list_at l.lists i) (map (v.records) (path i)) capacity.0).0
      (image.packed i below, joined_pages (v.records) (path i) ∙ image.content i below) in
      sym (length-map (path i) (v.records)) ∙ ap length pages

  some_page : (i : ℕ) → i < size l → 1 ≤ length (path i)
  some_page i below = some (path i) (image.paths.follows i below)
    where
      some : (xs : List ℕ) → IsPath (next v) (1 + i) xs → 1 ≤ length xs
      some [] e = absurd (omega (arith, e))
      some (x ∷ xs) p = omega arith

  -- the pages of the first n chains
  pages_before : (n : ℕ) → n ≤ size l →
      sum_by (λ j. sum_by (λ _. 1) (path j)) (range_with_len 0 n) ≡ n + overflow_before l n
  unfolding overflow_before
  pages_before zero low = refl
  pages_before (suc n) low =
      omega (
        arith,
        sum_more (λ j. sum_by (λ _. 1) (path j)) 0 n n (omega arith),
        sum_ones (path n),
        pages_before n (omega arith),
        length-path n (omega arith),
        some_page n (omega arith),
      )

  pages_are_total : P ≡ page_total l
  pages_are_total =
      omega (
        arith,
        sum_covered (next v) (bucket v) (size l) P path (λ _. 1) image.paths,
        ones_below 1 (P - 1),
        pages_before (size l) (omega arith),
        image.listing.config.initial.0,
        image.listing.shape.from_initial,
      )

  longest_same : (n : ℕ) → n ≤ size l → longest_before l n ≡ longest_chain v n
  unfolding longest_before longest_chain
  longest_same zero low = refl
  longest_same (suc n) low =
      let before = longest_same n (omega arith) in
      let same : chain_of v n ≡ path n =
      rw (← pages_are v l P path image)
      (paths_are_chains (next v) (bucket v) (size l) P path image.paths n (omega arith)) in
      let here : page_count_in l n ≡ length (chain_of v n) = sym (length-path n (omega arith)) ∙ ap length (sym same) in
      rw (before, here) refl

  census_is : census_of l ≡ counted v
  census_is =
      let first : initial v ≡ l.config.initial = ap (λ (h : Header). h.config.initial) image.header in
      let size_is : buckets v ≡ size l = ap (λ (h : Header). h.buckets) image.header in
      let count_is : record_count v ≡ count_of l.lists = ap (λ (h : Header). h.records) image.header in
      let pages_is : page_count v ≡ page_total l = ap (λ (h : Header). h.pages) image.header ∙ pages_are_total in
      let longest : longest_before l (size l) ≡ longest_chain v (buckets v) =
      longest_same (size l) (omega arith) ∙ ap (longest_chain v) (sym size_is) in
      λ i. record {
        buckets = sym size_is i;
        level = level (sym first i) (sym size_is i);
        pointer = pointer (sym first i) (sym size_is i);
        records = sym count_is i;
        pages = sym pages_is i;
        overflow = sym pages_is i - 1 - sym size_is i;
        longest = longest i;
      }

-- the census of an image's listing counts the pages that the image has
pub census_law : PackingLaw → CensusLaw
census_law packing bytes l (P, path, image) = census_is packing (view_of bytes) l P path image.shown
