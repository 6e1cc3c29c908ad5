-- An image that other bytes follow is read as if they weren't there
use Rattle.std.proofs.Common.{◌≡◌, ◌≢◌, ℕ, ◌+◌, ◌-◌, ◌*◌, ◌<◌, ◌≤◌, Bool, true, false, cond, ◌||◌, eqb, leb, ltb, List}
use Rattle.std.proofs.Common.{◌∷◌, ◌++◌, length, take, drop, get_or, map, Option, Some, None, Result, Ok, Err, refl}
use Rattle.std.proofs.Common.{sym, ap, ◌∙◌, arith}
use Rattle.std.specs.Prelude.{IfErr, IfOk, IfSome, max, min}
use Rattle.std.specs.List.{range_with_len, find}
use Rattle.std.proofs.lemmas.Bool.Decides.{nat_tests}
use Rattle.std.proofs.lemmas.List.{drop-take, drop_at, get_or-take, length-take, take-append-le, take-take, take_all}
use Rattle.std.proofs.lemmas.List.{take_at}
use Rattle.std.proofs.Math.Nat.{mul-le-mul_left}
use Rattle.lh_page.specs.declared.head.PageHead.{PageHead}
use Rattle.lh_page.specs.declared.pair.Pair.{Pair}
use Rattle.lh_page.specs.PageFields.{bad_slot, head_of, pairs_of}
use Rattle.lh_bucket.specs.Listing.{Lists}
use Rattle.lh_image.specs.declared.fault.ImageFault.{ImageFault}
use Rattle.lh_image.specs.declared.fault.ImageFault.TheVariants.{Magic, HeaderField, Counts, Short, Trailing, ReadFault}
use Rattle.lh_image.specs.declared.fault.ImageFault.TheVariants.{Memory}
use Rattle.lh_image.specs.declared.header.Header.{Header}
use Rattle.lh_image.specs.declared.judge.page_checks.PageFaults.{PageFaults}
use Rattle.lh_image.specs.declared.table.PageEntry.{PageEntry}
use Rattle.lh_image.specs.Faults.{at_head, bad_kind, bad_bucket, bad_used, field_rows, first_fault_of, has_header}
use Rattle.lh_image.specs.Faults.{has_trailing, header_rows, image_fault, is_short, no_magic, page_rows, size_rows}
use Rattle.lh_image.specs.Faults.{where_so}
use Rattle.lh_image.specs.Filling.{IsCut}
use Rattle.lh_image.specs.Header.{HasHeader, ReadsHeader}
use Rattle.lh_image.specs.Image.{ImageLaw, IsImage, OneListingLaw}
use Rattle.lh_image.specs.Layout.{ends_in_zeros, header_of, image_bytes, no_head, page, view_of}
use Rattle.lh_image.specs.Listed.{IsLate, IsRead}
use Rattle.lh_image.specs.PageChecks.{AreNoted, known_bad_level, known_bad_slot}
use Rattle.lh_image.specs.Pages.{HaveCome}
use Rattle.lh_image.specs.Reading.{IsDueAnswer, IsDueFault, Leaves, LeadingLaw, LeavesFollowing, following, leading}
use Rattle.lh_image.specs.Reading.{leading_size, reading_of}
use Rattle.lh_image.specs.Table.{IsTable, has_plain_head}
use Rattle.lh_image.specs.Version.{format_of, page_bytes, version_of}
use Rattle.lh_image.specs.View.{View, used}
use Rattle.lh_image.proofs.Bytes.Versions.{least_page, no_magic-front, version-front}
use Rattle.lh_image.proofs.Faults.FirstAnswers.{first_behind, none_first}
use Rattle.lh_image.proofs.Judging.Finding.{find_same}
use Rattle.lh_image.proofs.Looking.Steps.{so_none}
use Rattle.lh_image.proofs.Paths.Totals.{sum_same}
use Rattle.lh_image.proofs.OfReading.FirstPage.{from_header, front, header-front, read_as, zeros-front}
use Rattle.lh_image.proofs.OfReading.Whole.{AnswersView, bytes_same, cut_is, exact_is, image_is}

-- ---- what the first page shows

version-leading : (bytes : List ℕ) → version_of (leading bytes) ≡ version_of bytes
unfolding leading
version-leading bytes = version-front (leading_size bytes) bytes (omega (arith, least_page (version_of bytes)))

front-leading : (bytes : List ℕ) → front (leading bytes) ≡ front bytes
unfolding leading
front-leading bytes =
    ap (λ v. take (page_bytes v) (leading bytes)) (version-leading bytes)
    ∙ take-take (page_bytes (version_of bytes)) (leading_size bytes) bytes (omega arith)

header-leading : (bytes : List ℕ) → header_of (leading bytes) ≡ header_of bytes
header-leading bytes = sym (header-front (leading bytes)) ∙ ap header_of (front-leading bytes) ∙ header-front bytes

zeros-leading : (bytes : List ℕ) → ends_in_zeros (leading bytes) ≡ ends_in_zeros bytes
zeros-leading bytes = sym (zeros-front (leading bytes)) ∙ ap ends_in_zeros (front-leading bytes) ∙ zeros-front bytes

no_magic-leading : (bytes : List ℕ) → no_magic (leading bytes) ≡ no_magic bytes
unfolding leading
no_magic-leading bytes = no_magic-front (leading_size bytes) bytes (omega (arith, least_page (version_of bytes)))

size-leading : (bytes : List ℕ) → image_bytes (leading bytes) ≡ image_bytes bytes
size-leading bytes =
    ap (λ v. page_bytes v * (header_of (leading bytes)).pages) (version-leading bytes)
    ∙ ap (λ (h : Header). page_bytes (version_of bytes) * h.pages) (header-leading bytes)

length-leading : (bytes : List ℕ) → length (leading bytes) ≡ min (leading_size bytes) (length bytes)
unfolding leading
length-leading bytes = length-take (leading_size bytes) bytes

-- over plain numbers: a size that is cut off at the greater of two others is as far from them
same_enough : (w s l m : ℕ) → m ≡ min (max w s) l → leb w m ≡ leb w l
same_enough w s l m e = grind (arith, nat_tests)

same_short : (w s l m : ℕ) → m ≡ min (max w s) l → (ltb m w || ltb m s) ≡ (ltb l w || ltb l s)
same_short w s l m e = grind (arith, nat_tests)

enough-leading : (bytes : List ℕ) → has_header (leading bytes) ≡ has_header bytes
enough-leading bytes =
    ap (λ v. leb (page_bytes v) (length (leading bytes))) (version-leading bytes)
    ∙ same_enough (page_bytes (version_of bytes)) (image_bytes bytes) (length bytes) (length (leading bytes))
    (length-leading bytes)

short-leading : (bytes : List ℕ) → is_short (leading bytes) ≡ is_short bytes
unfolding is_short
short-leading bytes =
    ap (λ v. ltb (length (leading bytes)) (page_bytes v) || ltb (length (leading bytes)) (image_bytes (leading bytes)))
    (version-leading bytes)
    ∙ ap (λ s. ltb (length (leading bytes)) (page_bytes (version_of bytes)) || ltb (length (leading bytes)) s)
    (size-leading bytes)
    ∙ same_short (page_bytes (version_of bytes)) (image_bytes bytes) (length bytes) (length (leading bytes))
    (length-leading bytes)

-- the rows of the header, by what they are made of
abbrev rows_of : Bool → Bool → Header → Bool → List (Option ImageFault)
rows_of none enough h zeros = where_so none Magic ∷ map (λ row. cond enough row None) (field_rows h zeros)

rows-leading : (bytes : List ℕ) → header_rows (leading bytes) ≡ header_rows bytes
rows-leading bytes =
    ap (λ b. rows_of b (has_header (leading bytes)) (header_of (leading bytes)) (ends_in_zeros (leading bytes)))
    (no_magic-leading bytes)
    ∙ ap (λ b. rows_of (no_magic bytes) b (header_of (leading bytes)) (ends_in_zeros (leading bytes)))
    (enough-leading bytes)
    ∙ ap (λ h. rows_of (no_magic bytes) (has_header bytes) h (ends_in_zeros (leading bytes))) (header-leading bytes)
    ∙ ap (λ b. rows_of (no_magic bytes) (has_header bytes) (header_of bytes) b) (zeros-leading bytes)

-- ---- the faults

short_from : (bytes : List ℕ) → first_fault_of (header_rows bytes) ≡ None → is_short bytes ≡ true →
    reading_of bytes ≡ Err Short
unfolding image_fault first_fault_of
short_from bytes none short =
    read_as bytes Short
    (first_behind (header_rows bytes) (size_rows bytes ++ page_rows (view_of bytes)) none ∙ rw short refl)

trailing_from : (bytes : List ℕ) → first_fault_of (header_rows bytes) ≡ None → is_short bytes ≡ false →
    has_trailing bytes ≡ true → reading_of bytes ≡ Err Trailing
unfolding image_fault first_fault_of
trailing_from bytes none short long =
    read_as bytes Trailing
    (first_behind (header_rows bytes) (size_rows bytes ++ page_rows (view_of bytes)) none ∙ rw (short, long) refl)

-- over plain numbers: no more bytes than the image's
no_more : (w s l : ℕ) → ltb s l ≡ false → l ≤ max w s
no_more w s l e = grind (arith, nat_tests)

whole-leading : (bytes : List ℕ) → has_trailing bytes ≡ false → leading bytes ≡ bytes
unfolding leading has_trailing
whole-leading bytes e =
    take_all (leading_size bytes) bytes (no_more (page_bytes (version_of bytes)) (image_bytes bytes) (length bytes) e)

same_err : (f g : ImageFault) (answer : Result Lists ImageFault) → answer ≡ Err f → answer ≡ Err g → f ≡ g
same_err f g answer e h = cc

-- a fault other than bytes behind the image is also the fault of the image alone
same_fault : (bytes : List ℕ) (f : ImageFault) → f ≢ Trailing → reading_of bytes ≡ Err f →
    reading_of (leading bytes) ≡ Err f
same_fault bytes f other due = by_header (first_fault_of (header_rows bytes)) refl
  where
    by_end : (b : Bool) → first_fault_of (header_rows bytes) ≡ None → is_short bytes ≡ false → has_trailing bytes ≡ b →
        reading_of (leading bytes) ≡ Err f
    by_end true none enough long =
        absurd (other (same_err f Trailing (reading_of bytes) due (trailing_from bytes none enough long)))
    by_end false none enough ended = ap reading_of (whole-leading bytes ended) ∙ due

    by_size : (b : Bool) → first_fault_of (header_rows bytes) ≡ None → is_short bytes ≡ b →
        reading_of (leading bytes) ≡ Err f
    by_size true none short =
        short_from (leading bytes) (ap first_fault_of (rows-leading bytes) ∙ none) (short-leading bytes ∙ short)
        ∙ ap Err (same_err Short f (reading_of bytes) (short_from bytes none short) due)
    by_size false none enough = by_end (has_trailing bytes) none enough refl

    by_header : (o : Option ImageFault) → first_fault_of (header_rows bytes) ≡ o → reading_of (leading bytes) ≡ Err f
    by_header (Some g) e =
        from_header (leading bytes) g (ap first_fault_of (rows-leading bytes) ∙ e)
        ∙ ap Err (same_err g f (reading_of bytes) (from_header bytes g e) due)
    by_header None e = by_size (is_short bytes) e refl

due-leading : (bytes : List ℕ) (f : ImageFault) → f ≢ Trailing → IsDueFault f (reading_of bytes) →
    IsDueFault f (reading_of (leading bytes))
due-leading bytes ReadFault other due = tt
due-leading bytes Memory other due = tt
due-leading bytes f other due = same_fault bytes f other due

header_due : (bytes : List ℕ) (now : Option (List ℕ)) (f : ImageFault) → ReadsHeader bytes (Err f) now →
    IsDueFault f (reading_of (leading bytes))
header_due bytes now Trailing h = absurd h.1
header_due bytes now ReadFault h = tt
header_due bytes now Memory h = tt
header_due bytes now f h = same_fault bytes f (λ e. cc) h.0

-- a fault of the header is the one that is due of the image alone
pub header_told : (old new : Option (List ℕ)) (f : ImageFault) → IfSome old (λ bytes. ReadsHeader bytes (Err f) new) →
    IfSome old (λ bytes. IsDueFault f (reading_of (leading bytes)))
header_told None new f h = tt
header_told (Some bytes) new f h = header_due bytes new f h

cut_other : (bytes : List ℕ) (size : ℕ) (f : ImageFault) → IsCut bytes size f → f ≢ Trailing
cut_other bytes size Short cut = λ e. cc
cut_other bytes size ReadFault cut = λ e. cc
cut_other bytes size Memory cut = λ e. cc
cut_other bytes size f cut = absurd cut

-- where not all pages came, the reason for it is the fault that is due of the image alone
pub cut_told : (old mid : Option (List ℕ)) (header : Header) (f : ImageFault) →
    IfSome old (λ bytes. HasHeader header bytes mid) →
    ((bytes : List ℕ) → HasHeader header bytes mid → IsCut bytes (page_bytes (version_of bytes) * header.pages) f) →
    IfSome old (λ bytes. IsDueFault f (reading_of (leading bytes)))
cut_told None mid header f has cut = tt
cut_told (Some bytes) mid header f has cut =
    due-leading bytes f (cut_other bytes (page_bytes (version_of bytes) * header.pages) f (cut bytes has))
    (cut_is bytes header mid f has (cut bytes has))

cut_leaves : (bytes : List ℕ) (size : ℕ) (now : Option (List ℕ)) (f : ImageFault) → IsCut bytes size f →
    Leaves {X = Lists} (Err f) bytes now
cut_leaves bytes size now Short cut = tt
cut_leaves bytes size now ReadFault cut = tt
cut_leaves bytes size now Memory cut = tt
cut_leaves bytes size now f cut = absurd cut

-- where not all pages came, anything may be left after the fault
pub cut_left : (old mid now : Option (List ℕ)) (header : Header) (f : ImageFault) →
    IfSome old (λ bytes. HasHeader header bytes mid) →
    ((bytes : List ℕ) → HasHeader header bytes mid → IsCut bytes (page_bytes (version_of bytes) * header.pages) f) →
    IfSome old (λ bytes. Leaves {X = Lists} (Err f) bytes now)
cut_left None mid now header f has cut = tt
cut_left (Some bytes) mid now header f has cut =
    cut_leaves bytes (page_bytes (version_of bytes) * header.pages) now f (cut bytes has)

-- ---- the pages

page-leading : (bytes : List ℕ) (p : ℕ) → p < (header_of bytes).pages → page (leading bytes) p ≡ page bytes p
unfolding page leading
page-leading bytes p low =
    let size : ℕ = page_bytes (version_of bytes) in
    let n : ℕ = leading_size bytes in
    let above : p + 1 ≤ (header_of bytes).pages = omega (arith, low) in
    let fits : size * (p + 1) ≤ size * (header_of bytes).pages = mul-le-mul_left size above in
    let split : n ≡ size * p + (n - size * p) = omega (arith, fits) in
    ap (λ v. take (page_bytes v) (drop (page_bytes v * p) (leading bytes))) (version-leading bytes)
    ∙ ap (λ k. take size (drop (size * p) (take k bytes))) split
    ∙ ap (take size) (drop-take (size * p) (n - size * p) bytes)
    ∙ take-take size (n - size * p) (drop (size * p) bytes) (omega (arith, fits))

-- two Views that show the same in the first n pages
record AreAlike (v w : View) (n : ℕ) : Type 0 where
  header : v.header ≡ w.header
  head : (p : ℕ) → p < n → v.head p ≡ w.head p
  records : (p : ℕ) → p < n → v.records p ≡ w.records p
  bad_slot : (p : ℕ) → p < n → v.bad_slot p ≡ w.bad_slot p

alike-leading : (bytes : List ℕ) → AreAlike (view_of (leading bytes)) (view_of bytes) (header_of bytes).pages
unfolding view_of
alike-leading bytes = record {
  header = header-leading bytes;
  head = λ p low. ap (λ g. cond (eqb p 0) no_head (head_of g)) (page-leading bytes p low);
  records =
      λ p low.
      ap (λ v. pairs_of (format_of v) (page (leading bytes) p)) (version-leading bytes)
      ∙ ap (pairs_of (format_of (version_of bytes))) (page-leading bytes p low);
  bad_slot =
      λ p low.
      ap (λ v. bad_slot (format_of v) (page (leading bytes) p)) (version-leading bytes)
      ∙ ap (bad_slot (format_of (version_of bytes))) (page-leading bytes p low);
}

module _ (v w : View) (n : ℕ) (alike : AreAlike v w n) where
  test_alike : (test : Header → ℕ → PageHead → Bool) (p : ℕ) → p < n → at_head test w p ≡ at_head test v p
  test_alike test p low = sym (ap (λ h. test h p (v.head p)) alike.header ∙ ap (test w.header p) (alike.head p low))

  plain_alike : (p : ℕ) → p < n → has_plain_head w p ≡ has_plain_head v p
  plain_alike p low = rw (alike.header, alike.head p low) refl

  slot_alike : (p : ℕ) → p < n → known_bad_slot w p ≡ known_bad_slot v p
  slot_alike p low = rw (plain_alike p low, alike.bad_slot p low) refl

  table_alike : (entries : List PageEntry) (pairs : List Pair) → IsTable w n entries pairs → IsTable v n entries pairs
  table_alike entries pairs t = record {
    size = t.size;
    next = λ p low. t.next p low ∙ sym (ap (λ (h : PageHead). h.next) (alike.head p low));
    bucket = λ p low. t.bucket p low ∙ sym (ap (λ (h : PageHead). h.bucket) (alike.head p low));
    records =
        λ p from low plain none.
        t.records p from low (plain_alike p low ∙ plain) (sym (alike.bad_slot p low) ∙ none)
        ∙ sym (alike.records p low);
  }

  noted_alike : (faults : PageFaults) → AreNoted w (n - 1) faults → AreNoted v (n - 1) faults
  noted_alike faults noted =
      let same : (test : Header → ℕ → PageHead → Bool) →
      find (at_head test w) (range_with_len 1 (n - 1)) ≡ find (at_head test v) (range_with_len 1 (n - 1)) =
      λ test. find_same (at_head test w) (at_head test v) 1 (n - 1) (λ p from below. test_alike test p (omega arith)) in
      record {
        sum =
            noted.sum
            ∙ sum_same (used w) (used v) 1 (n - 1)
            (λ p from below. sym (ap (λ (h : PageHead). h.used) (alike.head p (omega arith))));
        kind = noted.kind ∙ same bad_kind;
        bucket = noted.bucket ∙ same bad_bucket;
        level = noted.level ∙ same known_bad_level;
        used = noted.used ∙ same bad_used;
        slot =
            noted.slot
            ∙ find_same (known_bad_slot w) (known_bad_slot v) 1 (n - 1) (λ p from below. slot_alike p (omega arith));
      }

-- ---- the answer

module _ (bytes : List ℕ) (header : Header) (entries : List PageEntry) (pairs : List Pair) (faults : PageFaults)
    (mid : Option (List ℕ)) (some : 1 ≤ header.pages) (has : HasHeader header bytes mid)
    (come : HaveCome bytes header header.pages entries pairs faults) where
  image_size : page_bytes (version_of bytes) * header.pages ≡ leading_size bytes
  image_size =
      let all = bytes_same bytes header come.fields in
      let least : page_bytes (version_of bytes) * 1 ≤ page_bytes (version_of bytes) * header.pages =
      mul-le-mul_left (page_bytes (version_of bytes)) some in
      omega (arith, all, least)

  read-leading : IsRead (leading bytes) header entries pairs faults
  unfolding leading
  read-leading =
      let all : page_bytes (version_of (leading bytes)) * header.pages ≡ leading_size bytes =
      ap (λ v. page_bytes v * header.pages) (version-leading bytes) ∙ image_size in
      let size : length (leading bytes) ≡ leading_size bytes =
      omega (arith, length-leading bytes, image_size, come.enough) in
      let pages : header.pages ≡ (header_of bytes).pages = ap (λ (h : Header). h.pages) come.fields in
      let alike : AreAlike (view_of (leading bytes)) (view_of bytes) header.pages = rw pages (alike-leading bytes) in
      record {
        come = record {
          fields = come.fields ∙ sym (header-leading bytes);
          kept = table_alike (view_of (leading bytes)) (view_of bytes) header.pages alike entries pairs come.kept;
          noted = noted_alike (view_of (leading bytes)) (view_of bytes) header.pages alike faults come.noted;
          enough = omega (arith, all, size);
          each_byte = λ i low.
              let within : i < leading_size bytes = omega (arith, low, all) in
              let at : get_or (take (leading_size bytes) bytes) i 0 ≡ get_or bytes i 0 =
              get_or-take (leading_size bytes) bytes i 0 within in
              omega (arith, at, come.each_byte i (omega (arith, within, image_size)));
        };
        faultless = ap first_fault_of (rows-leading bytes) ∙ has.faultless;
        size = size ∙ sym all;
      }

-- where all pages came, and the rest was left
abbrev pub CameBefore : Option (List ℕ) → Option (List ℕ) → Header → List PageEntry → List Pair → PageFaults → Type 0
CameBefore mid last header entries pairs faults =
    (bytes : List ℕ) → HasHeader header bytes mid →
    HaveCome bytes header header.pages entries pairs faults
    × (last ≡ Some (drop (page_bytes (version_of bytes) * header.pages) bytes))

module _ (mid last : Option (List ℕ)) (header : Header) (entries : List PageEntry) (pairs : List Pair)
    (faults : PageFaults) (result : Result Lists ImageFault) (some : 1 ≤ header.pages)
    (read : CameBefore mid last header entries pairs faults) where
  -- where all pages came, the answer to their View is the one that is due of the image alone
  pub answered : (old : Option (List ℕ)) → IfSome old (λ bytes. HasHeader header bytes mid) →
      AnswersView header entries pairs faults result →
      IfSome old (λ bytes. IsDueAnswer (λ listing l. listing ≡ l) result (reading_of (leading bytes)))
  answered None has exact = tt
  answered (Some bytes) has exact =
      exact_is (leading bytes) header entries pairs faults result some
      (read-leading bytes header entries pairs faults mid some has (read bytes has).0) exact

  -- where all pages came and a listing is answered, the image alone is an image of it
  pub image_read : (old : Option (List ℕ)) → ImageLaw → IfSome old (λ bytes. HasHeader header bytes mid) →
      AnswersView header entries pairs faults result →
      IfSome old (λ bytes. IfOk result (λ listing. IsImage (leading bytes) listing))
  image_read None law has exact = tt
  image_read (Some bytes) law has exact =
      image_is (leading bytes) header entries pairs faults result law some
      (read-leading bytes header entries pairs faults mid some has (read bytes has).0) exact

late_leaves : (bytes : List ℕ) (now : Option (List ℕ)) (f : ImageFault) → IsLate f →
    Leaves {X = Lists} (Err f) bytes now
late_leaves bytes now Magic late = absurd late
late_leaves bytes now (HeaderField x) late = absurd late
late_leaves bytes now Counts late = absurd late
late_leaves bytes now Trailing late = absurd late
late_leaves bytes now f late = tt

rest_is : (bytes : List ℕ) (last : Option (List ℕ)) (size : ℕ) → last ≡ Some (drop size bytes) →
    size ≡ leading_size bytes → last ≡ Some (following bytes)
unfolding following
rest_is bytes last size e is = e ∙ ap (λ n. Some (drop n bytes)) is

-- where all pages came, what is left is what follows the image, or what a late fault leaves
pub left : (old mid last : Option (List ℕ)) (header : Header) (entries : List PageEntry) (pairs : List Pair)
    (faults : PageFaults) (result : Result Lists ImageFault) → 1 ≤ header.pages →
    CameBefore mid last header entries pairs faults →
    IfSome old (λ bytes. HasHeader header bytes mid) → IfErr result IsLate →
    IfSome old (λ bytes. LeavesFollowing result bytes last)
left None mid last header entries pairs faults result some read has late = tt
left (Some bytes) mid last header entries pairs faults (Err f) some read has late = late_leaves bytes last f late
left (Some bytes) mid last header entries pairs faults (Ok x) some read has late =
    let all = read bytes has in
    rest_is bytes last (page_bytes (version_of bytes) * header.pages) all.1
    (image_size bytes header entries pairs faults mid some has all.0)

-- ---- an image with other bytes behind it

same_version : (bytes rest : List ℕ) → 1024 ≤ length bytes → version_of (bytes ++ rest) ≡ version_of bytes
same_version bytes rest long =
    sym (version-front 4 (bytes ++ rest) (omega arith))
    ∙ ap version_of (take-append-le 4 bytes rest (omega (arith, long))) ∙ version-front 4 bytes (omega arith)

same_header : (bytes rest : List ℕ) → page_bytes (version_of bytes) ≤ length bytes →
    header_of (bytes ++ rest) ≡ header_of bytes
same_header bytes rest long =
    let told : version_of (bytes ++ rest) ≡ version_of bytes =
    same_version bytes rest (omega (arith, long, least_page (version_of bytes))) in
    let fronts : front (bytes ++ rest) ≡ front bytes =
    ap (λ v. take (page_bytes v) (bytes ++ rest)) told
    ∙ take-append-le (page_bytes (version_of bytes)) bytes rest long in
    sym (header-front (bytes ++ rest)) ∙ ap header_of fronts ∙ header-front bytes

same_size : (bytes rest : List ℕ) → page_bytes (version_of bytes) ≤ length bytes →
    leading_size (bytes ++ rest) ≡ leading_size bytes
same_size bytes rest long =
    let told : version_of (bytes ++ rest) ≡ version_of bytes =
    same_version bytes rest (omega (arith, long, least_page (version_of bytes))) in
    ap (λ v. max (page_bytes v) (page_bytes v * (header_of (bytes ++ rest)).pages)) told
    ∙ ap (λ (h : Header). max (page_bytes (version_of bytes)) (page_bytes (version_of bytes) * h.pages))
    (same_header bytes rest long)

-- over plain numbers: neither too short nor too long
just_whole : (w s l : ℕ) → (ltb l w || ltb l s) ≡ false → ltb s l ≡ false → (w ≤ l) × (l ≡ s)
just_whole w s l short long = (grind (arith, nat_tests), grind (arith, nat_tests))

faultless_size : (bytes : List ℕ) → image_fault bytes ≡ None →
    (page_bytes (version_of bytes) ≤ length bytes) × (length bytes ≡ image_bytes bytes)
unfolding image_fault is_short has_trailing
faultless_size bytes none =
    let rows = (none_first (header_rows bytes ++ size_rows bytes ++ page_rows (view_of bytes))).0 none in
    just_whole (page_bytes (version_of bytes)) (image_bytes bytes) (length bytes) (so_none _ _ rows.1.1.1.0)
    (so_none _ _ rows.1.1.1.1.0)

-- of an image with other bytes behind it, the image is what leads, and they are what follows
pub leading_law : OneListingLaw → LeadingLaw
unfolding leading following
leading_law law bytes rest l is =
    let whole = faultless_size bytes (law bytes l is).0 in
    let size : length bytes ≡ leading_size (bytes ++ rest) =
    omega (arith, same_size bytes rest whole.0, whole.0, whole.1) in
    (take_at bytes rest (leading_size (bytes ++ rest)) size, drop_at bytes rest (leading_size (bytes ++ rest)) size)
