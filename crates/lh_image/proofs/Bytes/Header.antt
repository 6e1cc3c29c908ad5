-- The header page is spelled by its fields exactly where it begins with the magic bytes of a version and ends with
-- zeros.
use Rattle.std.proofs.Common.{◌≡◌, inl, inr, ℕ, zero, suc, ◌+◌, ◌-◌, ◌*◌, ◌≤◌, true, false, eqb, List, [], ◌∷◌, ◌++◌}
use Rattle.std.proofs.Common.{length, take, drop, replicate, refl, sym, ap, ◌∙◌, append_assoc, length-append, arith}
use Rattle.std.proofs.Common.{rules}
use Rattle.std.specs.List.{list_all}
use Rattle.std.proofs.lemmas.Bool.{and_parts, eqb-true, cases_lt}
use Rattle.std.proofs.Math.Seq.{drop-append_seam, take-append_seam}
use Rattle.std.proofs.lemmas.List.{places, same_lists, drop-drop, length-take, length-drop, get_or-take, get_or-drop}
use Rattle.std.proofs.lemmas.List.{get_or_append_left, get_or-append_right, get_or_past, take-take, drop-take}
use Rattle.std.proofs.lemmas.Nat.{le_bytes_4, le_bytes_8}
use Rattle.byteorder.specs.Numbers.{little_from-take, little_from-cons}
use Rattle.std.specs.Int.{w32, w64, from_le_bytes}
use Rattle.byteorder.specs.Endian.{little_from, little_bytes}
use Rattle.lh_page.specs.PageFields.{all_zero}
use Rattle.lh_page.specs.PageLaws.{AreBytes}
use Rattle.lh_image.specs.declared.version.Version.{Version}
use Rattle.lh_image.specs.Layout.{fields_end, ends_in_zeros, header_of, header_text, number_text, padding, page}
use Rattle.lh_image.specs.Faults.{no_magic}
use Rattle.lh_image.specs.Version.{magic, page_bytes, version_of}
use Rattle.lh_image.proofs.Bytes.Versions.{least_page, length-magic, magic_of, no_magic_from_magic, page_cut}

-- no bytes give zeros from any offset
pub from_none : (k j n : ℕ) → little_from k n [] ≡ little_from j n []
from_none k j zero = refl
from_none k j (suc n) = ap (λ (x : ℕ). 0 + 256 * x) (from_none (suc k) (suc j) n)

-- a number at an offset is that at the start of what stands behind
pub from_drop : (k n : ℕ) (xs : List ℕ) → little_from k n xs ≡ little_from 0 n (drop k xs)
from_drop zero n xs = refl
from_drop (suc k) n [] = from_none (suc k) 0 n
from_drop (suc k) n (x ∷ xs) = little_from-cons k n x xs ∙ from_drop k n xs

-- ---- bytes of a part

-- each byte of a part of some bytes is a byte
pub part_bytes : (xs : List ℕ) (k n : ℕ) → AreBytes xs → AreBytes (take n (drop k xs))
part_bytes xs k n b i = elim (cases_lt i n) [
  | inl low ↦ rw (get_or-take n (drop k xs) i 0 low, get_or-drop k xs i 0) (b (k + i))
  | inr high ↦ rw (get_or_past (take n (drop k xs)) i 0 (omega (arith, length-take n (drop k xs)))) (omega arith)
]

-- two rows of bytes, joined, are a row of bytes
pub bytes_joined : (xs ys : List ℕ) → AreBytes xs → AreBytes ys → AreBytes (xs ++ ys)
bytes_joined xs ys a b i = elim (cases_lt i (length xs)) [
  | inl low ↦ rw (get_or_append_left xs ys 0 i low) (a i)
  | inr high ↦ rw (get_or-append_right xs ys (length xs) i 0 refl high) (b (i - length xs))
]

length-part : (xs : List ℕ) (k n : ℕ) → k + n ≤ length xs → length (take n (drop k xs)) ≡ n
length-part xs k n l = omega (arith, length-take n (drop k xs), length-drop k xs)

field4 : (xs : List ℕ) (k : ℕ) → AreBytes xs → k + 4 ≤ length xs →
    take 4 (drop k xs) ≡ little_bytes 4 (little_from k 4 xs)
field4 xs k b l =
    let e : little_from k 4 xs ≡ little_from 0 4 (take 4 (drop k xs)) =
    from_drop k 4 xs ∙ sym (little_from-take 0 4 4 (drop k xs) (omega arith)) in
    let f : little_from 0 4 (take 4 (drop k xs)) ≡ from_le_bytes w32 (take 4 (drop k xs)) = omega arith in
    sym (le_bytes_4 (take 4 (drop k xs)) (little_from k 4 xs) (length-part xs k 4 l) (part_bytes xs k 4 b) (e ∙ f))

field8 : (xs : List ℕ) (k : ℕ) → AreBytes xs → k + 8 ≤ length xs →
    take 8 (drop k xs) ≡ little_bytes 8 (little_from k 8 xs)
field8 xs k b l =
    let e : little_from k 8 xs ≡ little_from 0 8 (take 8 (drop k xs)) =
    from_drop k 8 xs ∙ sym (little_from-take 0 8 8 (drop k xs) (omega arith)) in
    let f : little_from 0 8 (take 8 (drop k xs)) ≡ from_le_bytes w64 (take 8 (drop k xs)) = omega arith in
    sym (le_bytes_8 (take 8 (drop k xs)) (little_from k 8 xs) (length-part xs k 8 l) (part_bytes xs k 8 b) (e ∙ f))

-- a part in two
stretch : (m n : ℕ) (xs : List ℕ) → take (m + n) xs ≡ take m xs ++ take n (drop m xs)
stretch m n xs = same_lists _ _ (search (rules, places)) (λ k d h. grind (arith, places))

-- a part from an offset on is two parts, one behind the other
pub cut : (m n k : ℕ) (xs : List ℕ) → take (m + n) (drop k xs) ≡ take m (drop k xs) ++ take n (drop (k + m) xs)
cut m n k xs = rw (← drop-drop m k xs) (stretch m n (drop k xs))

-- ---- zeros

zeros_are : (xs : List ℕ) → all_zero xs ≡ true → xs ≡ replicate (length xs) 0
zeros_are [] e = refl
zeros_are (x ∷ xs) e =
    let p = and_parts (eqb x 0) (list_all (λ b. eqb b 0) xs) e in
    let a : x ≡ 0 = eqb-true x 0 p.0 in
    let r = zeros_are xs p.1 in
    cc

zeros_all : (n : ℕ) → all_zero (replicate n 0) ≡ true
zeros_all zero = refl
zeros_all (suc n) = zeros_all n

-- ---- the header

-- a header is of the version of its bytes
pub version_shown : (bytes : List ℕ) → (header_of bytes).version ≡ version_of bytes
unfolding header_of
version_shown bytes = refl

-- the first page is the first bytes
pub page_first : (bytes : List ℕ) → page bytes 0 ≡ take (page_bytes (version_of bytes)) bytes
unfolding page
page_first bytes =
    let none : page_bytes (version_of bytes) * 0 ≡ 0 = omega arith in
    ap (λ k. take (page_bytes (version_of bytes)) (drop k bytes)) none

module _ (bytes : List ℕ) (fit : AreBytes bytes) (long : page_bytes (version_of bytes) ≤ length bytes) where
  -- the first four bytes, the numbers, and what stands behind them
  header_parts : (n : ℕ) →
      take (fields_end + n) bytes ≡
      take 4 bytes
      ++ (take 4 (drop 4 bytes)
      ++ (take 4 (drop 8 bytes)
      ++ (take 4 (drop 12 bytes)
      ++ (take 4 (drop 16 bytes)
      ++ (take 4 (drop 20 bytes)
      ++ (take 4 (drop 24 bytes)
      ++ (take 8 (drop 28 bytes) ++ take n (drop fields_end bytes))))))))
  header_parts n =
      let all : fields_end + n ≡ 4 + (4 + (4 + (4 + (4 + (4 + (4 + (8 + n))))))) = omega arith in
      ap (λ k. take k bytes) all
      ∙ cut 4 (4 + (4 + (4 + (4 + (4 + (4 + (8 + n))))))) 0 bytes
      ∙ ap (λ x. take 4 bytes ++ x)
      (cut 4 (4 + (4 + (4 + (4 + (4 + (8 + n)))))) 4 bytes
      ∙ ap (λ x. take 4 (drop 4 bytes) ++ x)
      (cut 4 (4 + (4 + (4 + (4 + (8 + n))))) 8 bytes ∙ ap (λ x. take 4 (drop 8 bytes) ++ x)
      (cut 4 (4 + (4 + (4 + (8 + n)))) 12 bytes
      ∙ ap (λ x. take 4 (drop 12 bytes) ++ x)
      (cut 4 (4 + (4 + (8 + n))) 16 bytes
      ∙ ap (λ x. take 4 (drop 16 bytes) ++ x)
      (cut 4 (4 + (8 + n)) 20 bytes ∙ ap (λ x. take 4 (drop 20 bytes) ++ x)
      (cut 4 (8 + n) 24 bytes ∙ ap (λ x. take 4 (drop 24 bytes) ++ x) (cut 8 n 28 bytes)))))))

  -- bytes that pass the header's own tests begin with a header
  pub header_spelled : no_magic bytes ≡ false → ends_in_zeros bytes ≡ true →
      page bytes 0 ≡ header_text (header_of bytes)
  unfolding header_of
  header_spelled m z =
      let v : Version = version_of bytes in
      let size : page_bytes v ≡ fields_end + padding v = page_cut v in
      let low = least_page v in
      let e : take (padding v) (drop fields_end bytes) ≡ replicate (padding v) 0 =
      zeros_are (take (padding v) (drop fields_end bytes)) z
      ∙ ap (λ n. replicate n 0) (length-part bytes fields_end (padding v) (omega arith)) in
      page_first bytes ∙ ap (λ n. take n bytes) size ∙ header_parts (padding v)
      ∙ rw (
        magic_of bytes m,
        e,
        field4 bytes 4 fit (omega arith),
        field4 bytes 8 fit (omega arith),
        field4 bytes 12 fit (omega arith),
        field4 bytes 16 fit (omega arith),
        field4 bytes 20 fit (omega arith),
        field4 bytes 24 fit (omega arith),
        field8 bytes 28 fit (omega arith),
      )
      (sym (append_assoc (magic v) (number_text (header_of bytes)) (replicate (padding v) 0)))

-- a page that is spelled as a header begins with its version's magic
header_begins : (bytes : List ℕ) → page bytes 0 ≡ header_text (header_of bytes) →
    take 4 bytes ≡ magic (version_of bytes)
unfolding header_of
header_begins bytes e =
    let v : Version = version_of bytes in
    let low = least_page v in
    let rest : List ℕ = number_text (header_of bytes) ++ replicate (padding v) 0 in
    let text : header_text (header_of bytes) ≡ magic v ++ rest =
    append_assoc (magic v) (number_text (header_of bytes)) (replicate (padding v) 0) in
    sym (take-take 4 (page_bytes v) bytes (omega arith)) ∙ ap (take 4) (sym (page_first bytes) ∙ e ∙ text)
    ∙ ap (λ n. take n (magic v ++ rest)) (sym (length-magic v)) ∙ take-append_seam (magic v) rest

header_zeros : (bytes : List ℕ) → page bytes 0 ≡ header_text (header_of bytes) → ends_in_zeros bytes ≡ true
unfolding header_of
header_zeros bytes e =
    let v : Version = version_of bytes in
    let low = least_page v in
    let front : List ℕ = magic v ++ number_text (header_of bytes) in
    let size : length front ≡ fields_end =
    length-append (magic v) (number_text (header_of bytes)) ∙ ap (λ n. n + 32) (length-magic v) in
    let a : take (padding v) (drop fields_end bytes) ≡ drop fields_end (take (page_bytes v) bytes) =
    sym (drop-take fields_end (padding v) bytes) ∙ ap (λ n. drop fields_end (take n bytes)) (sym (page_cut v)) in
    let b : drop fields_end (take (page_bytes v) bytes) ≡ replicate (padding v) 0 =
    ap (drop fields_end) (sym (page_first bytes) ∙ e)
    ∙ ap (λ n. drop n (front ++ replicate (padding v) 0)) (sym size)
    ∙ drop-append_seam front (replicate (padding v) 0) in
    rw (a ∙ b) (zeros_all (padding v))

-- the bytes behind the fields of a page are those to its end
pub zeros_behind : (v : Version) (bytes : List ℕ) → v ≡ version_of bytes → length bytes ≡ page_bytes v →
    ends_in_zeros bytes ≡ all_zero (take (length bytes - fields_end) (drop fields_end bytes))
zeros_behind v bytes told size =
    let same : padding (version_of bytes) ≡ length bytes - fields_end =
    ap padding (sym told) ∙ ap (λ n. n - fields_end) (sym size) in
    ap (λ n. all_zero (take n (drop fields_end bytes))) same

-- a header passes its own tests
pub header_tests : (bytes : List ℕ) → page bytes 0 ≡ header_text (header_of bytes) →
    (no_magic bytes ≡ false) × (ends_in_zeros bytes ≡ true)
header_tests bytes e = (no_magic_from_magic (version_of bytes) bytes (header_begins bytes e), header_zeros bytes e)
