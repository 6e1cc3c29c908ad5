-- What the first page decides alone
use Rattle.std.proofs.Common.{◌≡◌, ℕ, ◌+◌, ◌-◌, ◌<◌, ◌≤◌, Bool, true, false, leb, ltb, List, [], ◌∷◌, ◌++◌, length}
use Rattle.std.proofs.Common.{take, drop, Option, Some, None, Result, Ok, Err, refl, sym, ap, subst, ◌∙◌, length-append}
use Rattle.std.proofs.Common.{arith}
use Rattle.std.specs.Prelude.{min, option_map, IfSome, IfOk}
use Rattle.std.specs.Result.{result_err}
use Rattle.std.specs.Io.KnownBytes.{Consumes}
use Rattle.std.proofs.lemmas.Bool.Decides.{nat_tests}
use Rattle.std.proofs.lemmas.List.{take-take, drop-take, drop-drop, length-drop, length-take, take-append-drop, take_at}
use Rattle.std.proofs.lemmas.List.{get_or-take}
use Rattle.std.proofs.lemmas.Slice.{take-put_mid}
use borrow.Rule.Slice.PartMut.{put_mid}
use Rattle.byteorder.specs.Numbers.{little_from-take}
use Rattle.lh_page.specs.PageFields.{all_zero}
use Rattle.lh_page.specs.PageLaws.{AreBytes}
use Rattle.lh_bucket.specs.Listing.{Lists}
use Rattle.lh_image.specs.declared.fault.ImageFault.{ImageFault}
use Rattle.lh_image.specs.declared.fault.ImageFault.TheVariants.{Magic, HeaderField, Counts, Short, Trailing, ReadFault}
use Rattle.lh_image.specs.declared.fault.ImageFault.TheVariants.{Memory}
use Rattle.lh_image.specs.declared.header.Header.{Header}
use Rattle.lh_image.specs.Faults.{bad_field, bad_counts, no_magic, is_short, where_so, field_rows, header_rows}
use Rattle.lh_image.specs.Faults.{size_rows, page_rows, first_fault_of, image_fault}
use Rattle.lh_image.specs.Filling.{FillsWhole, IsCut, IsFilled}
use Rattle.lh_image.specs.declared.version.Version.{Version}
use Rattle.lh_image.specs.Header.{HasBegun, LeavesFirst, ReadsFront, ReadsHeader}
use Rattle.lh_image.specs.Layout.{initial_offset, capacity_offset, load_offset, buckets_offset, max_offset}
use Rattle.lh_image.specs.Layout.{pages_offset, records_offset, fields_end, ends_in_zeros, header_of, padding, view_of}
use Rattle.lh_image.specs.Reading.{IsDueFault, Leaves, reading_of}
use Rattle.lh_image.specs.Version.{page_bytes, version_of}
use Rattle.lh_image.proofs.Bytes.Header.{bytes_joined, cut}
use Rattle.lh_image.proofs.Bytes.Versions.{least_page, no_magic-front, page_bytes-one, page_cut, version-front}
use Rattle.lh_image.proofs.Bytes.Versions.{version_of-none}
use Rattle.lh_image.proofs.Faults.FirstAnswers.{first_before}
use Rattle.lh_image.proofs.OfReading.Filled.{fills_whole}

-- ---- the fields are those of the first page

-- the first page of some bytes
abbrev pub front : List ℕ → List ℕ
front bytes = take (page_bytes (version_of bytes)) bytes

-- the header that the first page shows is that of all bytes
pub header-front : (bytes : List ℕ) → header_of (front bytes) ≡ header_of bytes
unfolding header_of
header-front bytes =
    let w : ℕ = page_bytes (version_of bytes) in
    let low : 1024 ≤ w = least_page (version_of bytes) in
    λ i. record {
      version = version-front w bytes (omega arith) i;
      config = record {
        initial = little_from-take initial_offset 4 w bytes (omega arith) i;
        capacity = little_from-take capacity_offset 4 w bytes (omega arith) i;
        load = little_from-take load_offset 4 w bytes (omega arith) i;
        max = little_from-take max_offset 4 w bytes (omega arith) i;
      };
      buckets = little_from-take buckets_offset 4 w bytes (omega arith) i;
      pages = little_from-take pages_offset 4 w bytes (omega arith) i;
      records = little_from-take records_offset 8 w bytes (omega arith) i;
    }

-- the first page alone shows whether the bytes behind the header's fields are zeros
pub zeros-front : (bytes : List ℕ) → ends_in_zeros (front bytes) ≡ ends_in_zeros bytes
zeros-front bytes =
    let v : Version = version_of bytes in
    let low : 1024 ≤ page_bytes v = least_page v in
    let same : version_of (front bytes) ≡ v = version-front (page_bytes v) bytes (omega arith) in
    let behind : drop fields_end (front bytes) ≡ take (padding v) (drop fields_end bytes) =
    ap (λ n. drop fields_end (take n bytes)) (page_cut v) ∙ drop-take fields_end (padding v) bytes in
    ap (λ w. all_zero (take (padding w) (drop fields_end (front bytes)))) same
    ∙ ap all_zero
    (ap (take (padding v)) behind ∙ take-take (padding v) (padding v) (drop fields_end bytes) (omega arith))

-- what the header's fields are due
abbrev pub due : List ℕ → Option ImageFault
due bytes = first_fault_of (field_rows (header_of bytes) (ends_in_zeros bytes))

-- the first page alone shows what the header's fields are due
pub due-front : (bytes : List ℕ) → due (front bytes) ≡ due bytes
due-front bytes = rw (header-front bytes, zeros-front bytes) refl

-- ---- the answers

-- a fault is due where it is what is to be answered
pub told : (f : ImageFault) (answer : Result Lists ImageFault) → answer ≡ Err f → IsDueFault f answer
told ReadFault answer e = tt
told Memory answer e = tt
told f answer e = e

-- the fault of some bytes is what is to be answered to them
pub read_as : (bytes : List ℕ) (f : ImageFault) → image_fault bytes ≡ Some f → reading_of bytes ≡ Err f
unfolding reading_of
read_as bytes f e = rw e refl

-- the first fault that the first page shows is what is to be answered
pub from_header : (bytes : List ℕ) (f : ImageFault) → first_fault_of (header_rows bytes) ≡ Some f →
    reading_of bytes ≡ Err f
unfolding image_fault
from_header bytes f e =
    read_as bytes f (first_before (header_rows bytes) (size_rows bytes ++ page_rows (view_of bytes)) f e)

consumed : (n : ℕ) (bytes : List ℕ) (now : Option (List ℕ)) → now ≡ Some (drop n bytes) →
    Consumes (Some bytes) now (take n bytes)
consumed n bytes now e = rw e (sym (take-append-drop n bytes))

leaves_due : (o : Option ℕ) (b : Bool) (f : ImageFault) (bytes : List ℕ) (now : Option (List ℕ)) →
    now ≡ Some (drop (page_bytes (version_of bytes)) bytes) →
    Some f ≡ first_fault_of (option_map HeaderField o ∷ where_so b Counts ∷ []) →
    LeavesFirst f bytes now
unfolding first_fault_of
leaves_due (Some x) b f bytes now rest e =
    let is : f ≡ HeaderField x = cc in rw is (consumed (page_bytes (version_of bytes)) bytes now rest)
leaves_due None true f bytes now rest e =
    let is : f ≡ Counts = cc in rw is (consumed (page_bytes (version_of bytes)) bytes now rest)
leaves_due None false f bytes now rest e = let no_fault : ⊥ = cc in absurd no_fault

-- bytes that begin as no image have that as the first fault of their header
pub magic_is : (bytes : List ℕ) → no_magic bytes ≡ true → first_fault_of (header_rows bytes) ≡ Some Magic
unfolding first_fault_of
magic_is bytes e = rw e refl

short_is : (bytes : List ℕ) → no_magic bytes ≡ false → length bytes < page_bytes (version_of bytes) →
    reading_of bytes ≡ Err Short
unfolding image_fault is_short first_fault_of
short_is bytes e less =
    let test : leb (page_bytes (version_of bytes)) (length bytes) ≡ false = grind (arith, nat_tests) in
    let short : ltb (length bytes) (page_bytes (version_of bytes)) ≡ true = grind (arith, nat_tests) in
    read_as bytes Short (rw (e, test, short) refl)

-- where bytes begin as an image and have a whole first page, the header's fault is what its fields are due
pub due_is : (bytes : List ℕ) → no_magic bytes ≡ false → page_bytes (version_of bytes) ≤ length bytes →
    first_fault_of (header_rows bytes) ≡ due bytes
unfolding first_fault_of
due_is bytes e enough =
    let test : leb (page_bytes (version_of bytes)) (length bytes) ≡ true = grind (arith, nat_tests) in rw (e, test) refl

-- ---- the first bytes, which tell the version

-- what came first tells of the bytes whether they begin as an image, and of which version
begun : (bytes buffer : List ℕ) (n : ℕ) (mid : Option (List ℕ)) → length buffer ≡ 1024 → IsFilled bytes n buffer mid →
    (no_magic (take n buffer) ≡ no_magic bytes) × (version_of (take n buffer) ≡ version_of bytes)
begun bytes buffer n mid size filled =
    let same : take n buffer ≡ take 1024 bytes = rw size at filled.front in (
      ap no_magic same ∙ no_magic-front 1024 bytes (omega arith),
      ap version_of same
          ∙ version-front 1024 bytes (omega arith),
    )

-- where what came first begins as no image, that is the fault that is due, and all behind the first page is left
pub not_magic : (old new : Option (List ℕ)) (n : ℕ) (buffer : List ℕ) (page : Version → List ℕ) → length buffer ≡ 1024 →
    IfSome old (λ bytes. IsFilled bytes n buffer new) → no_magic (take n buffer) ≡ true →
    IfSome old (λ bytes. ReadsFront bytes (Err Magic) page new)
not_magic None new n buffer page size filled test = tt
not_magic (Some bytes) new n buffer page size filled test =
    let none : no_magic bytes ≡ true = sym (begun bytes buffer n new size filled).0 ∙ test in
    let rest : new ≡ Some (drop 1024 bytes) = rw size at filled.rest in
    let first : page_bytes (version_of bytes) ≡ 1024 = ap page_bytes (version_of-none bytes none) ∙ page_bytes-one in
    (from_header bytes Magic (magic_is bytes none), rw first (consumed 1024 bytes new rest))

-- where what came begins as an image but is shorter than any page, the fault of too few bytes is due
pub too_short : (old new : Option (List ℕ)) (n : ℕ) (buffer : List ℕ) (page : Version → List ℕ) → length buffer ≡ 1024 →
    IfSome old (λ bytes. IsFilled bytes n buffer new) → no_magic (take n buffer) ≡ false → n < 1024 →
    IfSome old (λ bytes. ReadsFront bytes (Err Short) page new)
too_short None new n buffer page size filled test less = tt
too_short (Some bytes) new n buffer page size filled test less =
    let count : n ≡ min 1024 (length bytes) = rw size at filled.count in (
      short_is bytes (sym (begun bytes buffer n new size filled).0 ∙ test)
          (omega (arith, least_page (version_of bytes))),
      tt,
    )

-- where the buffer was filled and begins as an image, the front of the bytes came and tells their version
pub has_begun : (version : Version) (old new : Option (List ℕ)) (n : ℕ) (buffer : List ℕ) → length buffer ≡ 1024 →
    IfSome old (λ bytes. IsFilled bytes n buffer new) → no_magic (take n buffer) ≡ false → 1024 ≤ n →
    version ≡ version_of (take n buffer) → AreBytes buffer →
    IfSome old (λ bytes. ReadsFront bytes (Ok version) (λ _. buffer) new)
has_begun version None new n buffer size filled test whole told each = tt
has_begun version (Some bytes) new n buffer size filled test whole told each =
    let so = begun bytes buffer n new size filled in
    record {
      told = told ∙ so.1;
      magic = sym so.0 ∙ test;
      filled = fills_whole bytes new n buffer filled (omega arith) each;
    }

-- ---- the bytes of a longer page behind them

-- where the rest of the first page didn't come, the reason for it is the answer that is due
pub rest_cut : (version : Version) (old mid new : Option (List ℕ)) (front rest : List ℕ) (f : ImageFault) →
    length front ≡ 1024 → length rest ≡ page_bytes version - 1024 →
    IfSome old (λ bytes. HasBegun version bytes front mid) → IfSome mid (λ bytes. IsCut bytes (length rest) f) →
    IfSome old (λ bytes. ReadsFront bytes (Err f) (λ _. rest) new)
rest_cut version None mid new front rest f first size has cut = tt
rest_cut version (Some bytes) mid new front rest f first size has cut = due_to f (rw left at cut)
  where
    left : mid ≡ Some (drop 1024 bytes)
    left = rw first at has.filled.rest

    due_to : (f : ImageFault) → IsCut (drop 1024 bytes) (length rest) f →
        IsDueFault f (reading_of bytes) × LeavesFirst f bytes new
    due_to Short less =
        let same : page_bytes version ≡ page_bytes (version_of bytes) = ap page_bytes has.told in
        (short_is bytes has.magic (omega (arith, less, same, size, length-drop 1024 bytes, least_page version)), tt)
    due_to ReadFault less = (tt, tt)
    due_to Memory less = (tt, tt)
    due_to f less = absurd less

-- a buffer of which first the front and then what stands behind it was written
pub joined : (k n : ℕ) (front behind rest : List ℕ) → length front ≡ 1024 → n ≡ 1024 + length rest →
    take n (put_mid 1024 k (front ++ behind) rest) ≡ front ++ rest
joined k n front behind rest size all =
    take-put_mid 1024 k (front ++ behind) rest n all (omega (arith, length-append front behind))
    ∙ ap (λ xs. xs ++ rest) (take_at front behind 1024 size)

-- the front of a page tells its version
pub version_joined : (front rest : List ℕ) → length front ≡ 1024 → version_of (front ++ rest) ≡ version_of front
version_joined front rest size =
    sym (version-front 1024 (front ++ rest) (omega arith)) ∙ ap version_of (take_at front rest 1024 size)

-- where the front of the first page came and then its rest, the page is the front of the bytes
pub page_came : (version : Version) (old mid new : Option (List ℕ)) (front rest : List ℕ) (page : Version → List ℕ) →
    length front ≡ 1024 → length rest ≡ page_bytes version - 1024 →
    IfSome old (λ bytes. HasBegun version bytes front mid) → IfSome mid (λ bytes. FillsWhole bytes rest new) →
    page version ≡ front ++ rest → IfSome old (λ bytes. ReadsFront bytes (Ok version) page new)
page_came version None mid new front rest page first size has more is = tt
page_came version (Some bytes) mid new front rest page first size has more is =
    let left : mid ≡ Some (drop 1024 bytes) = rw first at has.filled.rest in
    let begin : front ≡ take 1024 bytes = rw first at has.filled.front in
    let behind : FillsWhole (drop 1024 bytes) rest new = rw left at more in
    let all : length (page version) ≡ 1024 + length rest =
    ap length is ∙ length-append front rest ∙ ap (λ n. n + length rest) first in
    record {
      told = has.told;
      magic = has.magic;
      filled = record {
        enough =
            omega (arith, all, behind.enough, length-drop 1024 bytes, ap length begin, length-take 1024 bytes, first);
        front =
            is ∙ ap (λ xs. xs ++ rest) begin ∙ ap (λ xs. take 1024 bytes ++ xs) behind.front
            ∙ sym (cut 1024 (length rest) 0 bytes) ∙ ap (λ n. take n bytes) (sym all);
        rest = behind.rest ∙ ap Some (drop-drop (length rest) 1024 bytes ∙ ap (λ n. drop n bytes) (sym all));
        each_byte = λ i. rw is (bytes_joined front rest has.filled.each_byte behind.each_byte i);
      };
    }

-- ---- the header

module _ (bytes : List ℕ) (now : Option (List ℕ)) (has : HasBegun (version_of bytes) bytes (front bytes) now)
    (whole : length (front bytes) ≡ page_bytes (version_of bytes)) where
  reads : (result : Result Header ImageFault) → IfOk result (λ header. header ≡ header_of (front bytes)) →
      result_err result ≡ due (front bytes) → ReadsHeader bytes result now
  reads (Ok header) is fault = record {
    fields = is ∙ header-front bytes;
    faultless = due_is bytes has.magic (rw whole at has.filled.enough) ∙ sym (due-front bytes) ∙ sym fault;
    size = rw whole at has.filled.enough;
    rest = rw whole at has.filled.rest;
    each_byte = λ i low. rw (sym (get_or-take (page_bytes (version_of bytes)) bytes i 0 low)) (has.filled.each_byte i);
  }
  reads (Err f) is fault =
      let here : Some f ≡ due bytes = fault ∙ due-front bytes in (
        told f (reading_of bytes)
            (from_header bytes f (due_is bytes has.magic (rw whole at has.filled.enough) ∙ sym here)),
        leaves_due (bad_field (header_of bytes) (ends_in_zeros bytes)) (bad_counts (header_of bytes)) f bytes now
            (rw whole at has.filled.rest) here,
      )

-- a fault of the front is one of the header
pub header_told : (old new : Option (List ℕ)) (page : Version → List ℕ) (f : ImageFault) →
    IfSome old (λ bytes. ReadsFront bytes (Err f) page new) → IfSome old (λ bytes. ReadsHeader bytes (Err f) new)
header_told None new page f h = tt
header_told (Some bytes) new page Magic h = h
header_told (Some bytes) new page f h = h

-- what is left after a fault of the header is left after that fault
left_first : (bytes : List ℕ) (now : Option (List ℕ)) (f : ImageFault) → LeavesFirst f bytes now →
    Leaves {X = Lists} (Err f) bytes now
left_first bytes now Trailing h = absurd h
left_first bytes now f h = h

-- what a read of the header leaves after a fault is what that fault leaves
pub header_left : (old new : Option (List ℕ)) (f : ImageFault) → IfSome old (λ bytes. ReadsHeader bytes (Err f) new) →
    IfSome old (λ bytes. Leaves {X = Lists} (Err f) bytes new)
header_left None new f h = tt
header_left (Some bytes) new f h = left_first bytes new f h.1

-- the first page is the front of the bytes
page_is : (version : Version) (bytes page : List ℕ) (now : Option (List ℕ)) → length page ≡ page_bytes version →
    HasBegun version bytes page now → page ≡ front bytes
page_is version bytes page now size has = has.filled.front ∙ ap (λ n. take n bytes) (size ∙ ap page_bytes has.told)

-- the first page's header, or what its fields are due, is the header of the bytes, or the answer that is due
pub reads_first : (version : Version) (old new : Option (List ℕ)) (page : List ℕ) (result : Result Header ImageFault) →
    length page ≡ page_bytes version → IfSome old (λ bytes. HasBegun version bytes page new) →
    IfOk result (λ header. header ≡ header_of page) → result_err result ≡ due page →
    IfSome old (λ bytes. ReadsHeader bytes result new)
reads_first version None new page result size has header fault = tt
reads_first version (Some bytes) new page result size has header fault =
    let is : page ≡ front bytes = page_is version bytes page new size has in
    let begun : HasBegun (version_of bytes) bytes (front bytes) new =
    subst (λ v. HasBegun v bytes (front bytes) new) has.told (subst (λ xs. HasBegun version bytes xs new) is has) in
    reads bytes new begun (sym (ap length is) ∙ size ∙ ap page_bytes has.told) result (rw is at header) (rw is at fault)
