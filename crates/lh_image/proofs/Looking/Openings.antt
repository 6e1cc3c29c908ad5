-- What the first page and the number of bytes decide
use Rattle.std.proofs.Common.{◌≡◌, ℕ, ◌*◌, ◌<◌, ◌≤◌, true, false, ◌||◌, leb, ltb, List, length, Some, None, Result, Ok}
use Rattle.std.proofs.Common.{Err, refl, sym, ap, ◌∙◌, arith}
use Rattle.std.specs.Prelude.{IfOk}
use Rattle.std.specs.Result.{result_err}
use Rattle.std.proofs.lemmas.Bool.Decides.{nat_tests}
use Rattle.lh_image.specs.declared.fault.ImageFault.{ImageFault}
use Rattle.lh_image.specs.declared.fault.ImageFault.TheVariants.{Magic, Short, Trailing}
use Rattle.lh_image.specs.declared.header.Header.{Header}
use Rattle.lh_image.specs.Faults.{first_fault_of, has_trailing, header_rows, is_short, no_magic, size_rows}
use Rattle.lh_image.specs.Header.{AreInRange}
use Rattle.lh_image.specs.Layout.{header_of, image_bytes}
use Rattle.lh_image.specs.LookUp.{OpensHeader, opening_fault}
use Rattle.lh_image.specs.Version.{page_bytes, version_of}
use Rattle.lh_image.proofs.Faults.FirstAnswers.{first_before, first_behind}
use Rattle.lh_image.proofs.Images.ImageLaws.{some_pages}
use Rattle.lh_image.proofs.OfReading.FirstPage.{due, due-front, due_is, front, header-front, magic_is}

-- bytes that begin as an image of neither version have that as the fault of their opening
pub opening_magic : (bytes : List ℕ) → no_magic bytes ≡ true → opening_fault bytes ≡ Some Magic
unfolding opening_fault
opening_magic bytes e = first_before (header_rows bytes) (size_rows bytes) Magic (magic_is bytes e)

-- bytes that begin as a version's image but are fewer than a header are too short to be opened
pub opening_short : (bytes : List ℕ) → no_magic bytes ≡ false → length bytes < page_bytes (version_of bytes) →
    opening_fault bytes ≡ Some Short
unfolding opening_fault is_short first_fault_of
opening_short bytes e less =
    let test : leb (page_bytes (version_of bytes)) (length bytes) ≡ false = grind (arith, nat_tests) in
    let short : ltb (length bytes) (page_bytes (version_of bytes)) ≡ true = grind (arith, nat_tests) in
    rw (e, test, short) refl

-- the header of the first page, or the fault that is due to its fields, is what opening gives
pub opens_header : (bytes page : List ℕ) (result : Result Header ImageFault) → page ≡ front bytes →
    no_magic bytes ≡ false → page_bytes (version_of bytes) ≤ length bytes →
    IfOk result (λ header. header ≡ header_of page) → result_err result ≡ due page → OpensHeader bytes result
unfolding opening_fault
opens_header bytes page (Ok header) at magic enough is fault = (
  is ∙ ap header_of at ∙ header-front bytes,
  due_is bytes magic enough ∙ sym (due-front bytes) ∙ ap due (sym at) ∙ sym fault,
  enough,
)
opens_header bytes page (Err f) at magic enough is fault =
    first_before (header_rows bytes) (size_rows bytes) f
    (due_is bytes magic enough ∙ sym (due-front bytes) ∙ ap due (sym at) ∙ sym fault)

-- ---- the number of bytes

module _ (bytes : List ℕ) (header : Header) (size : ℕ) (is : header ≡ header_of bytes) (r : AreInRange header)
    (all : size ≡ page_bytes (version_of bytes) * header.pages) where
  size_is : size ≡ image_bytes bytes
  size_is = all ∙ ap (λ (h : Header). page_bytes (version_of bytes) * h.pages) is

  first_fits : page_bytes (version_of bytes) ≤ size
  first_fits = omega (arith, all, some_pages (page_bytes (version_of bytes)) header.pages (omega (arith, r.enough)))

  -- fewer bytes than the header's pages have are too short
  pub size_short : length bytes < size → Some Short ≡ first_fault_of (size_rows bytes)
  unfolding is_short first_fault_of
  size_short less =
      let short : (ltb (length bytes) (page_bytes (version_of bytes)) || ltb (length bytes) (image_bytes bytes)) ≡
      true =
      rw (← size_is) (grind (arith, nat_tests)) in
      rw short refl

  long_enough : size ≤ length bytes → is_short bytes ≡ false
  unfolding is_short
  long_enough enough = let low = first_fits in rw (← size_is) (grind (arith, nat_tests))

  -- of more bytes, some trail behind the last page
  pub size_trailing : size < length bytes → Some Trailing ≡ first_fault_of (size_rows bytes)
  unfolding has_trailing first_fault_of
  size_trailing more =
      let long : ltb (image_bytes bytes) (length bytes) ≡ true = rw (← size_is) (grind (arith, nat_tests)) in
      rw (long_enough (omega arith), long) refl

  -- just as many have no fault of their number
  pub size_whole : length bytes ≡ size → None ≡ first_fault_of (size_rows bytes)
  unfolding has_trailing first_fault_of
  size_whole same =
      let long : ltb (image_bytes bytes) (length bytes) ≡ false = rw (← size_is) (grind (arith, nat_tests)) in
      rw (long_enough (omega arith), long) refl

-- a fault of the number of bytes, behind a header without one
pub opening_size : (bytes : List ℕ) → first_fault_of (header_rows bytes) ≡ None →
    opening_fault bytes ≡ first_fault_of (size_rows bytes)
unfolding opening_fault
opening_size bytes e = first_behind (header_rows bytes) (size_rows bytes) e
