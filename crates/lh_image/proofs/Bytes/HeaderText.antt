-- The fields of a header that is written are read back.
use Rattle.std.proofs.Common.{◌≡◌, ℕ, ◌+◌, ◌<◌, ◌^◌, List, ◌++◌, length, take, drop, replicate, refl, sym, ap, ◌∙◌}
use Rattle.std.proofs.Common.{append_assoc, length-append, arith}
use Rattle.std.proofs.Math.Seq.{drop-append_seam, take-append-add, take-append_seam}
use Rattle.std.proofs.lemmas.List.{drop_at, drop-drop, length-replicate, take_at, take-replicate}
use borrow.Rule.Slice.PartMut.{put_mid}
use Rattle.lh_image.specs.declared.version.Version.{Version}
use Rattle.byteorder.specs.Numbers.{little_number-reads_back}
use Rattle.byteorder.specs.Endian.{little_from, little_bytes}
use Rattle.lh_image.specs.declared.header.Header.{Header}
use Rattle.lh_image.specs.Layout.{initial_offset, capacity_offset, load_offset, buckets_offset, max_offset}
use Rattle.lh_image.specs.Layout.{pages_offset, records_offset, header_of, header_text, number_text, padding}
use Rattle.lh_image.specs.Version.{magic, page_bytes, version_of}
use Rattle.lh_image.proofs.Bytes.Header.{from_drop}
use Rattle.lh_image.proofs.Bytes.Versions.{length-magic, most_page, page_cut, version_from_magic}

-- a number that stands at an offset behind the first four bytes
read_at : (k n x : ℕ) (xs ys rest : List ℕ) → drop 4 xs ≡ ys → drop k ys ≡ little_bytes n x ++ rest → x < 256 ^ n →
    little_from (4 + k) n xs ≡ x
read_at k n x xs ys rest first e fits =
    from_drop (4 + k) n xs ∙ ap (little_from 0 n) (sym (drop-drop k 4 xs) ∙ ap (drop k) first ∙ e)
    ∙ little_number-reads_back n x rest fits

-- the numbers of a header have room in their fields
pub record FitsHeader (h : Header) : Type 0 where
  pub initial : h.config.initial < 2 ^ 32
  pub capacity : h.config.capacity < 2 ^ 32
  pub load : h.config.load < 2 ^ 32
  pub buckets : h.buckets < 2 ^ 32
  pub max : h.config.max < 2 ^ 32
  pub pages : h.pages < 2 ^ 32
  pub records : h.records < 2 ^ 64

-- the text of a header, and other bytes behind it, in parts
text_parts : (h : Header) (rest : List ℕ) →
    header_text h ++ rest ≡ magic h.version ++ (number_text h ++ (replicate (padding h.version) 0 ++ rest))
text_parts h rest =
    ap (λ xs. xs ++ rest) (append_assoc (magic h.version) (number_text h) (replicate (padding h.version) 0))
    ∙ append_assoc (magic h.version) (number_text h ++ replicate (padding h.version) 0) rest
    ∙ ap (λ xs. magic h.version ++ xs) (append_assoc (number_text h) (replicate (padding h.version) 0) rest)

-- the text of a header tells its version, whatever stands behind it
pub version_of_text : (h : Header) (rest : List ℕ) → version_of (header_text h ++ rest) ≡ h.version
version_of_text h rest =
    version_from_magic h.version (header_text h ++ rest)
    (ap (take 4) (text_parts h rest)
    ∙ ap (λ n. take n (magic h.version ++ (number_text h ++ (replicate (padding h.version) 0 ++ rest))))
    (sym (length-magic h.version)) ∙ take-append_seam (magic h.version) _)

-- a header whose numbers have room in their fields is read back from its text, whatever stands behind it
pub header_of_text : (h : Header) (rest : List ℕ) → FitsHeader h → header_of (header_text h ++ rest) ≡ h
unfolding header_of
header_of_text h rest fits =
    let xs : List ℕ = header_text h ++ rest in
    let ys : List ℕ = number_text h ++ (replicate (padding h.version) 0 ++ rest) in
    let first : drop 4 xs ≡ ys =
    ap (drop 4) (text_parts h rest) ∙ ap (λ n. drop n (magic h.version ++ ys)) (sym (length-magic h.version))
    ∙ drop-append_seam (magic h.version) ys in
    let p0 : version_of xs ≡ h.version = version_of_text h rest in
    let p4 : little_from initial_offset 4 xs ≡ h.config.initial =
    read_at 0 4 h.config.initial xs ys (drop 4 ys) first refl fits.initial in
    let p8 : little_from capacity_offset 4 xs ≡ h.config.capacity =
    read_at 4 4 h.config.capacity xs ys (drop 8 ys) first refl fits.capacity in
    let p12 : little_from load_offset 4 xs ≡ h.config.load =
    read_at 8 4 h.config.load xs ys (drop 12 ys) first refl fits.load in
    let p16 : little_from buckets_offset 4 xs ≡ h.buckets =
    read_at 12 4 h.buckets xs ys (drop 16 ys) first refl fits.buckets in
    let p20 : little_from max_offset 4 xs ≡ h.config.max =
    read_at 16 4 h.config.max xs ys (drop 20 ys) first refl fits.max in
    let p24 : little_from pages_offset 4 xs ≡ h.pages = read_at 20 4 h.pages xs ys (drop 24 ys) first refl fits.pages in
    let p28 : little_from records_offset 8 xs ≡ h.records =
    read_at 24 8 h.records xs ys (drop 32 ys) first refl fits.records in
    λ i.
    record {
      version = p0 i;
      config = record { initial = p4 i; capacity = p8 i; load = p12 i; max = p20 i };
      buckets = p16 i;
      pages = p24 i;
      records = p28 i;
    }

-- a page of zeros over which the first four bytes and the numbers were written
pub header_written : (v : Version) (first numbers : List ℕ) → length first ≡ 4 → length numbers ≡ 32 →
    take (page_bytes v) (put_mid 4 32 (first ++ drop 4 (replicate 4096 0)) numbers) ≡
    first ++ numbers ++ replicate (padding v) 0
header_written v first numbers four size =
    let front : take 4 (first ++ drop 4 (replicate 4096 0)) ≡ first =
    take_at first (drop 4 (replicate 4096 0)) 4 four in
    let behind : drop 32 (drop 4 (first ++ drop 4 (replicate 4096 0))) ≡ replicate 4060 0 =
    ap (drop 32) (drop_at first (drop 4 (replicate 4096 0)) 4 four) in
    let cut : page_bytes v ≡ length (first ++ numbers) + padding v =
    omega (arith, page_cut v, length-append first numbers) in
    ap (λ xs. take (page_bytes v) (xs ++ (numbers ++ drop 32 (drop 4 (first ++ drop 4 (replicate 4096 0)))))) front
    ∙ ap (λ xs. take (page_bytes v) (first ++ (numbers ++ xs))) behind
    ∙ ap (take (page_bytes v)) (sym (append_assoc first numbers (replicate 4060 0)))
    ∙ ap (λ n. take n ((first ++ numbers) ++ replicate 4060 0)) cut
    ∙ take-append-add (first ++ numbers) (replicate 4060 0) (padding v)
    ∙ ap (λ xs. (first ++ numbers) ++ xs)
    (take-replicate (padding v) 4060 0 (omega (arith, page_cut v, most_page v)))

-- the text of a header is as long as a page of its version
pub length-header_text : (h : Header) → length (header_text h) ≡ page_bytes h.version
length-header_text h =
    length-append (magic h.version ++ number_text h) (replicate (padding h.version) 0)
    ∙ omega (
      arith,
      length-append (magic h.version) (number_text h),
      length-magic h.version,
      length-replicate {A = ℕ} (padding h.version) 0,
      page_cut h.version,
    )
