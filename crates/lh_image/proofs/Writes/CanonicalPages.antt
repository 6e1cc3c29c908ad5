-- What is written is an image of the listing.
use Rattle.std.proofs.Common.{◌≡◌, ◌≢◌, ℕ, zero, suc, ◌+◌, ◌-◌, ◌*◌, ◌<◌, ◌≤◌, List, [], ◌∷◌, ◌++◌, length, take, drop}
use Rattle.std.proofs.Common.{map, get_or, cond, eqb, leb, inl, inr, refl, sym, ap, subst, ◌∙◌, length-append, arith}
use Rattle.std.specs.List.{range_with_len, flat_map}
use Rattle.std.proofs.Math.Numerals.{add-one}
use Rattle.std.proofs.lemmas.Bool.{cases_lt, eq-eqb, ne_eqb, le-leb, lt-leb}
use Rattle.std.proofs.lemmas.List.{get_or-take}
use Rattle.std.proofs.lemmas.List.Folds.{flat_map-map}
use Rattle.std.proofs.lemmas.List.FromFn.{fill_by_all}
use Rattle.lh_addr.specs.Growth.{level_of}
use Rattle.lh_page.specs.declared.page.PageKind.TheVariants.{Primary, Overflow}
use Rattle.lh_page.specs.Format.{FitsFormat}
use Rattle.lh_page.specs.PackedList.{PackingLaw, PiecesLaw, IsPacked}
use Rattle.lh_page.specs.PageFields.{page_of}
use Rattle.lh_page.specs.PageLaws.{PageTextLaw, ReadBackLaw}
use Rattle.lh_page.specs.PageTable.{IsPage, IsWritable, page_text, kind_byte}
use Rattle.lh_bucket.specs.Listing.{Lists, IsListing, size, list_at}
use Rattle.lh_image.specs.Canonical.{canonical, page_count_in, pages_in, page_in, page_total, page_number, text_in}
use Rattle.lh_image.specs.Canonical.{overflow_text, overflow_before, CanonicalLaw, LengthLaw}
use Rattle.lh_image.specs.Chains.{IsPath, IsCovered, stands_in}
use Rattle.lh_image.specs.declared.version.Version.{Version}
use Rattle.lh_image.specs.Fitting.{FitsVersion}
use Rattle.lh_image.specs.Image.{IsImageBy, Shows, header_for}
use Rattle.lh_image.specs.Layout.{header_of, header_text, most_pages, page, page_at, view_of}
use Rattle.lh_image.specs.Version.{format_of, page_bytes, slots, version_of}
use Rattle.lh_image.specs.View.{bucket, next}
use Rattle.lh_image.proofs.Writes.Counting.{overflow_found, records_few}
use Rattle.lh_image.proofs.Writes.Writable.{fits_format, number_within, some_page, writable_page}
use Rattle.lh_image.proofs.Bytes.Header.{page_first}
use Rattle.lh_image.proofs.Bytes.HeaderText.{header_of_text, length-header_text, version_of_text}
use Rattle.lh_image.proofs.Bytes.Joining.{texts_more}
use Rattle.lh_image.proofs.Bytes.Placing.{StandsAt, part_at, at_front, behind, ahead, inside, text_at, length-texts}
use Rattle.lh_image.proofs.Bytes.Placing.{any_found, any_there}

map_map : {X Y Z : Type 0} (f : Y → Z) (g : X → Y) (xs : List X) → map f (map g xs) ≡ map (λ x. f (g x)) xs
map_map f g [] = refl
map_map f g (x ∷ xs) = ap (λ ys. f (g x) ∷ ys) (map_map f g xs)

module _ (packing : PackingLaw) (pieces : PiecesLaw) (texts : PageTextLaw) (back : ReadBackLaw) (v : Version)
    (l : Lists) (listing : IsListing l) (fit : FitsVersion v l) (few : page_total l ≤ most_pages) where
  one_page : (i : ℕ) → 1 ≤ page_count_in l i
  one_page = some_page pieces v l listing fit few

  number_low : (i k : ℕ) → i < size l → k < page_count_in l i →
      (1 ≤ page_number l i k) × (page_number l i k < page_total l)
  number_low = number_within pieces v l listing fit few

  some_number : (i k : ℕ) → i < size l → k < page_count_in l i → page_number l i k ≢ 0
  some_number i k low under = λ e. omega (arith, e, (number_low i k low under).0)

  -- ---- each page by itself

  fits : (i k : ℕ) → i < size l → k < page_count_in l i → FitsFormat (format_of v) (get_or (pages_in l i) k [])
  fits = fits_format pieces v l listing fit few

  writable : (i k : ℕ) → i < size l → k < page_count_in l i → IsWritable (format_of v) (page_in l i k)
  writable = writable_page pieces v l listing fit few

  is_page : (i k : ℕ) → i < size l → k < page_count_in l i → IsPage (format_of v) (text_in v l i k) (page_in l i k)
  unfolding text_in
  is_page i k low under =
      (texts (format_of v) (page_text (format_of v) (page_in l i k)) (page_in l i k) (writable i k low under)).1 refl

  length-text : (i k : ℕ) → i < size l → k < page_count_in l i → length (text_in v l i k) ≡ page_bytes v
  unfolding page_bytes
  length-text i k low under = (is_page i k low under).size

  -- ---- where each page stands

  length-primary : (n : ℕ) → n ≤ size l →
      length (flat_map (λ i. text_in v l i 0) (range_with_len 0 n)) ≡ page_bytes v * n
  length-primary n low =
      length-texts (λ i. text_in v l i 0) (page_bytes v) 0 n
      (λ i lower high. length-text i 0 (omega arith) (omega (arith, one_page i)))

  length-chain : (i n : ℕ) → i < size l → n ≤ page_count_in l i - 1 →
      length (flat_map (text_in v l i) (range_with_len 1 n)) ≡ page_bytes v * n
  length-chain i n low under =
      length-texts (text_in v l i) (page_bytes v) 1 n (λ k lower high. length-text i k low (omega (arith, one_page i)))

  length-overflow : (n : ℕ) → n ≤ size l →
      length (flat_map (overflow_text v l) (range_with_len 0 n)) ≡ page_bytes v * overflow_before l n
  unfolding overflow_text overflow_before
  length-overflow zero low = omega arith
  length-overflow (suc n) low =
      let more : flat_map (overflow_text v l) (range_with_len 0 (suc n)) ≡
      flat_map (overflow_text v l) (range_with_len 0 n) ++ overflow_text v l n =
      ap (λ m. flat_map (overflow_text v l) (range_with_len 0 m)) (sym (add-one n)) ∙ texts_more (overflow_text v l) 0 n
      ∙ ap (λ m. flat_map (overflow_text v l) (range_with_len 0 n) ++ overflow_text v l m)
      (let e : 0 + n ≡ n = omega arith in e) in
      omega (
        arith,
        ap length more,
        length-append (flat_map (overflow_text v l) (range_with_len 0 n)) (overflow_text v l n),
        length-overflow n (omega arith),
        length-chain n (page_count_in l n - 1) (omega arith) (omega arith),
      )

  stands : (i k : ℕ) → i < size l → k < page_count_in l i →
      StandsAt (canonical v l) (page_bytes v * page_number l i k) (text_in v l i k)
  unfolding canonical overflow_text
  stands i zero low under =
      behind (header_text (header_for v l (page_total l))) _ (text_in v l i 0)
      (length (flat_map (λ j. text_in v l j 0) (range_with_len 0 i))) (page_bytes v * (1 + i))
      (ahead (flat_map (λ j. text_in v l j 0) (range_with_len 0 (size l))) _ (text_in v l i 0) _
      (text_at (λ j. text_in v l j 0) 0 (size l) i i low (omega arith)))
      (omega (arith, length-header_text (header_for v l (page_total l)), length-primary i (omega arith)))
  stands i (suc k) low under =
      let primary : List ℕ = flat_map (λ j. text_in v l j 0) (range_with_len 0 (size l)) in
      let over : List ℕ = flat_map (overflow_text v l) (range_with_len 0 (size l)) in
      let own : StandsAt over (page_bytes v * (overflow_before l i + k)) (text_in v l i (suc k)) =
      inside over (overflow_text v l i) (text_in v l i (suc k))
      (length (flat_map (overflow_text v l) (range_with_len 0 i)))
      (length (flat_map (text_in v l i) (range_with_len 1 k))) (page_bytes v * (overflow_before l i + k))
      (text_at (overflow_text v l) 0 (size l) i i low (omega arith))
      (text_at (text_in v l i) 1 (page_count_in l i - 1) k (suc k) (omega arith) (omega arith))
      (omega (arith, length-overflow i (omega arith), length-chain i k low (omega arith))) in
      behind (header_text (header_for v l (page_total l))) (primary ++ over) (text_in v l i (suc k))
      (page_bytes v * (size l + overflow_before l i + k)) (page_bytes v * (1 + size l + overflow_before l i + k))
      (behind primary over (text_in v l i (suc k)) (page_bytes v * (overflow_before l i + k))
      (page_bytes v * (size l + overflow_before l i + k)) own
      (omega (arith, length-primary (size l) (omega arith))))
      (omega (arith, length-header_text (header_for v l (page_total l))))

  whole : length (canonical v l) ≡ page_bytes v * page_total l
  unfolding canonical
  whole =
      let primary : List ℕ = flat_map (λ j. text_in v l j 0) (range_with_len 0 (size l)) in
      let over : List ℕ = flat_map (overflow_text v l) (range_with_len 0 (size l)) in
      omega (
        arith,
        length-append (header_text (header_for v l (page_total l))) (primary ++ over),
        length-append primary over,
        length-header_text (header_for v l (page_total l)),
        length-primary (size l) (omega arith),
        length-overflow (size l) (omega arith),
      )

  -- ---- what each page shows

  version_is : version_of (canonical v l) ≡ v
  unfolding canonical
  version_is = version_of_text (header_for v l (page_total l)) _

  page_part : (n : ℕ) → page (canonical v l) n ≡ take (page_bytes v) (drop (page_bytes v * n) (canonical v l))
  unfolding page
  page_part n = ap (λ w. take (page_bytes w) (drop (page_bytes w * n) (canonical v l))) version_is

  page_is : (i k : ℕ) → i < size l → k < page_count_in l i → page (canonical v l) (page_number l i k) ≡ text_in v l i k
  page_is i k low under =
      page_part (page_number l i k)
      ∙ part_at (canonical v l) (text_in v l i k) (page_bytes v * page_number l i k) (page_bytes v)
      (stands i k low under) (length-text i k low under)

  shown : (i k : ℕ) → i < size l → k < page_count_in l i → page_at (canonical v l) (page_number l i k) ≡ page_in l i k
  shown i k low under =
      ap (λ w. page_of (format_of w) (page (canonical v l) (page_number l i k))) version_is
      ∙ ap (page_of (format_of v)) (page_is i k low under)
      ∙ (back (format_of v) (text_in v l i k) (page_in l i k) (slots v) (writable i k low under)
      (is_page i k low under) (fits i k low under).few).0

  level_at : (i k : ℕ) → i < size l → k < page_count_in l i →
      ((view_of (canonical v l)).head (page_number l i k)).level ≡ level_of l.config.initial (size l) i
  unfolding view_of
  level_at i k low under =
      rw (ne_eqb (page_number l i k) 0 (some_number i k low under)) (ap (λ g. g.level) (shown i k low under))

  bucket_at : (i k : ℕ) → i < size l → k < page_count_in l i → bucket (view_of (canonical v l)) (page_number l i k) ≡ i
  unfolding view_of
  bucket_at i k low under =
      rw (bucket, ne_eqb (page_number l i k) 0 (some_number i k low under)) (ap (λ g. g.bucket) (shown i k low under))

  records_at : (i k : ℕ) → i < size l → k < page_count_in l i →
      (view_of (canonical v l)).records (page_number l i k) ≡ get_or (pages_in l i) k []
  unfolding view_of
  records_at i k low under = ap (λ g. g.pairs) (shown i k low under)

  next_at : (i k : ℕ) → i < size l → k < page_count_in l i →
      next (view_of (canonical v l)) (page_number l i k) ≡
      cond (eqb (k + 1) (page_count_in l i)) 0 (page_number l i (suc k))
  unfolding view_of
  next_at i k low under =
      rw (next, ne_eqb (page_number l i k) 0 (some_number i k low under)) (ap (λ g. g.next) (shown i k low under))

  kind_at : (i k : ℕ) → i < size l → k < page_count_in l i →
      ((view_of (canonical v l)).head (page_number l i k)).kind ≡ cond (leb (page_number l i k) (size l)) 1 2
  unfolding view_of
  kind_at i zero low under = rw (ne_eqb (page_number l i zero) 0 (some_number i zero low under)) (
      ap (λ xs. get_or xs 0 0) (page_is i zero low under) ∙ sym (get_or-take 1 (text_in v l i 0) 0 0 (omega arith))
      ∙ ap (λ xs. get_or xs 0 0) (is_page i zero low under).kind
      ∙ sym (ap (λ b. cond b 1 2) (le-leb (1 + i) (size l) (omega arith))))
  kind_at i (suc k) low under = rw (ne_eqb (page_number l i (suc k)) 0 (some_number i (suc k) low under)) (
      ap (λ xs. get_or xs 0 0) (page_is i (suc k) low under)
      ∙ sym (get_or-take 1 (text_in v l i (suc k)) 0 0 (omega arith))
      ∙ ap (λ xs. get_or xs 0 0) (is_page i (suc k) low under).kind
      ∙ ap (λ b. kind_byte (cond b Primary Overflow)) (ne_eqb (suc k) 0 (λ e. omega (arith, e)))
      ∙ sym (ap (λ b. cond b 1 2) (lt-leb (1 + size l + overflow_before l i + k) (size l) (omega arith))))

  -- ---- the paths

  path : ℕ → List ℕ
  path i = map (page_number l i) (range_with_len 0 (page_count_in l i))

  found : (p : ℕ) → 1 ≤ p → p < page_total l →
      (i : ℕ) × (k : ℕ) × (i < size l) × (k < page_count_in l i) × (page_number l i k ≡ p)
  found p low high = elim (cases_lt (size l) p) [
    | inl over ↦
        let r = overflow_found l (size l) (p - 1 - size l) (omega arith) in
        (r.0, suc r.1, r.2, r.3, omega (arith, r.4))
    | inr under ↦ (p - 1, 0, omega arith, omega (arith, one_page (p - 1)), omega arith)
  ]

  follows_from : (i m k : ℕ) → i < size l → k + m ≡ page_count_in l i →
      IsPath (next (view_of (canonical v l))) (cond (eqb k (page_count_in l i)) 0 (page_number l i k))
      (map (page_number l i) (range_with_len k m))
  follows_from i zero k low e =
      rw (eq-eqb k (page_count_in l i) (let f : k ≡ page_count_in l i = omega (arith, e) in f)) refl
  follows_from i (suc m) k low e =
      let under : k < page_count_in l i = omega (arith, e) in
      let other : k ≢ page_count_in l i = λ f. omega (arith, f, under) in
      let rest : IsPath (next (view_of (canonical v l)))
      (cond (eqb (k + 1) (page_count_in l i)) 0 (page_number l i (k + 1)))
      (map (page_number l i) (range_with_len (k + 1) m)) =
      follows_from i m (k + 1) low (omega (arith, e)) in
      let step : cond (eqb (k + 1) (page_count_in l i)) 0 (page_number l i (k + 1)) ≡
      next (view_of (canonical v l)) (page_number l i k) =
      ap (λ n. cond (eqb (k + 1) (page_count_in l i)) 0 (page_number l i n)) (add-one k)
      ∙ sym (next_at i k low under) in
      rw (ne_eqb k (page_count_in l i) other) (
        refl,
        (number_low i k low under).0,
        subst (λ p. IsPath (next (view_of (canonical v l))) p (map (page_number l i) (range_with_len (k + 1) m))) step
            rest,
      )

  follows : (i : ℕ) → i < size l → IsPath (next (view_of (canonical v l))) (1 + i) (path i)
  unfolding path
  follows i low =
      let other : 0 ≢ page_count_in l i = λ e. omega (arith, e, one_page i) in
      rw (ne_eqb 0 (page_count_in l i) other) at (follows_from i (page_count_in l i) 0 low (omega arith))

  covered : IsCovered (next (view_of (canonical v l))) (bucket (view_of (canonical v l))) (size l) (page_total l) path
  unfolding path
  covered = record {
    follows = follows;
    own = λ i p low there.
        let r = any_found (page_number l i) p 0 (page_count_in l i) there in
        let under : r.0 < page_count_in l i = omega (arith, r.2) in (
          omega (arith, r.3, (number_low i r.0 low under).0),
          omega (arith, r.3, (number_low i r.0 low under).1),
          ap (bucket (view_of (canonical v l))) (sym r.3) ∙ bucket_at i r.0 low under,
        );
    all = λ p low high.
        let r = found p low high in
        let at : bucket (view_of (canonical v l)) p ≡ r.0 =
        ap (bucket (view_of (canonical v l))) (sym r.4) ∙ bucket_at r.0 r.1 r.2 r.3 in (
          omega (arith, at, r.2),
          ap (λ i. stands_in (map (page_number l i) (range_with_len 0 (page_count_in l i))) p) at
              ∙ any_there (page_number l r.0) p 0 (page_count_in l r.0) r.1 (omega arith) (omega (arith, r.3)) r.4,
        );
  }

  -- ---- the records along a path

  along : (i : ℕ) → i < size l → map ((view_of (canonical v l)).records) (path i) ≡ pages_in l i
  unfolding path page_count_in
  along i low =
      map_map ((view_of (canonical v l)).records) (page_number l i) (range_with_len 0 (length (pages_in l i)))
      ∙ sym
      (fill_by_all (λ k. (view_of (canonical v l)).records (page_number l i k)) (pages_in l i)
      (length (pages_in l i)) [] refl (λ k under. sym (records_at i k low under)))

  packed : (i : ℕ) → i < size l → IsPacked l.config.capacity (pages_in l i)
  packed i low = ((packing l.config.capacity (list_at l.lists i) (pages_in l i) listing.config.capacity.0).1 refl).0

  content : (i : ℕ) → i < size l → flat_map ((view_of (canonical v l)).records) (path i) ≡ list_at l.lists i
  content i low =
      sym (flat_map-map (λ pairs. pairs) ((view_of (canonical v l)).records) (path i))
      ∙ ap (flat_map (λ pairs. pairs)) (along i low)
      ∙ ((packing l.config.capacity (list_at l.lists i) (pages_in l i) listing.config.capacity.0).1 refl).1

  -- ---- the header

  header_at : page (canonical v l) 0 ≡ header_text (header_for v l (page_total l))
  unfolding canonical
  header_at =
      page_first (canonical v l) ∙ ap (λ w. take (page_bytes w) (canonical v l)) version_is
      ∙ part_at (canonical v l) (header_text (header_for v l (page_total l))) 0 (page_bytes v)
      (at_front (header_text (header_for v l (page_total l))) _)
      (length-header_text (header_for v l (page_total l)))

  header_shown : header_of (canonical v l) ≡ header_for v l (page_total l)
  unfolding canonical
  header_shown = header_of_text (header_for v l (page_total l)) _ (record {
    initial = omega (arith, listing.config.initial.1);
    capacity = omega (arith, listing.config.capacity.1);
    load = omega (arith, listing.config.load.1);
    buckets = omega (arith, listing.shape.to_max, listing.config.max.1);
    max = omega (arith, listing.config.max.1);
    pages = omega (arith, few);
    records = omega (arith, records_few l pieces listing.config.capacity few);
  })

  header_is : (view_of (canonical v l)).header ≡ header_for v l (page_total l)
  unfolding view_of
  header_is = header_shown

  shows : Shows (view_of (canonical v l)) l (page_total l) path
  shows = record {
    listing = listing;
    few = few;
    room = subst (λ w. l.config.capacity ≤ slots w) (sym (ap (λ h. h.version) header_is)) fit.capacity;
    header = header_is ∙ ap (λ w. header_for w l (page_total l)) (sym (ap (λ h. h.version) header_is));
    kinds =
        λ p low high.
        let r = found p low high in
        subst (λ n. ((view_of (canonical v l)).head n).kind ≡ cond (leb n (size l)) 1 2) r.4 (kind_at r.0 r.1 r.2 r.3);
    levels = λ p low high.
        let r = found p low high in
        subst
        (λ n.
        ((view_of (canonical v l)).head n).level ≡
        level_of l.config.initial (size l) (bucket (view_of (canonical v l)) n)) r.4
        (level_at r.0 r.1 r.2 r.3 ∙ ap (level_of l.config.initial (size l)) (sym (bucket_at r.0 r.1 r.2 r.3)));
    paths = covered;
    content = content;
    packed = λ i low. subst (IsPacked l.config.capacity) (sym (along i low)) (packed i low);
  }

  -- the bytes of page n of the image are a page by the format of a version
  abbrev IsPageOf : Version → ℕ → Type 0
  IsPageOf w n =
      IsPage (format_of w) (page (canonical v l) n) (page_at (canonical v l) n)
      × IsWritable (format_of w) (page_at (canonical v l) n)

  is_image : IsImageBy (canonical v l) l (page_total l) path
  is_image = record {
    whole = whole ∙ ap (λ w. page_bytes w * page_total l) (sym version_is);
    spelled = header_at ∙ ap header_text (sym header_shown);
    pages = λ p low high.
        let r = found p low high in
        subst (λ w. IsPageOf w p) (sym version_is) (subst (IsPageOf v) r.4
        (subst
        (λ xs.
        IsPage (format_of v) xs (page_at (canonical v l) (page_number l r.0 r.1))
        × IsWritable (format_of v) (page_at (canonical v l) (page_number l r.0 r.1)))
        (sym (page_is r.0 r.1 r.2 r.3))
        (subst (λ g. IsPage (format_of v) (text_in v l r.0 r.1) g × IsWritable (format_of v) g)
        (sym (shown r.0 r.1 r.2 r.3)) (is_page r.0 r.1 r.2 r.3, writable r.0 r.1 r.2 r.3))));
    shown = shows;
  }

-- what is written in a version for which the listing is fit has the bytes of its pages
pub canonical_length : PackingLaw → PiecesLaw → PageTextLaw → ReadBackLaw → LengthLaw
canonical_length packing pieces texts back v l listing fit few = whole packing pieces texts back v l listing fit few

-- what is written in a version for which the listing is fit is an image of the listing
pub canonical_image : PackingLaw → PiecesLaw → PageTextLaw → ReadBackLaw → CanonicalLaw
canonical_image packing pieces texts back v l listing fit few = (
  page_total l,
  path packing pieces texts back v l listing fit few,
  is_image packing pieces texts back v l listing fit few,
)
