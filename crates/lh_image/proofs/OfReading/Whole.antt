-- The answer of the whole, by how far the bytes were read
use Rattle.std.proofs.Common.{◌≡◌, ℕ, ◌+◌, ◌*◌, ◌<◌, ◌≤◌, true, false, ◌||◌, ltb, List, [], ◌++◌, length, take, drop}
use Rattle.std.proofs.Common.{get_or, inl, inr, Option, Some, None, Result, Ok, Err, refl, sym, ap, ◌∙◌, arith}
use Rattle.std.proofs.Common.{length-drop}
use Rattle.std.specs.Prelude.{IfSome, IfOk}
use Rattle.std.proofs.lemmas.Bool.Decides.{nat_tests}
use Rattle.std.proofs.lemmas.Bool.{cases_eq, cases_lt, eq-eqb, lt-ltb, ne_eqb}
use Rattle.std.proofs.Math.Nat.{mul-le-mul_left}
use Rattle.std.proofs.lemmas.List.{take-append-drop, take_all, drop-drop, drop_all, get_or_past}
use Rattle.lh_page.specs.PageFields.{bucket_of, next_of}
use Rattle.lh_page.specs.PageLaws.{AreBytes}
use Rattle.lh_image.specs.Image.{ImageLaw, IsImage, listing_of}
use Rattle.lh_bucket.specs.Listing.{Lists}
use Rattle.lh_page.specs.declared.pair.Pair.{Pair}
use Rattle.lh_image.specs.declared.fault.ImageFault.{ImageFault}
use Rattle.lh_image.specs.declared.fault.ImageFault.TheVariants.{Short, Trailing, ReadFault, Memory}
use Rattle.lh_image.specs.declared.header.Header.{Header}
use Rattle.lh_image.specs.declared.judge.page_checks.PageFaults.{PageFaults}
use Rattle.lh_image.specs.declared.table.PageEntry.{PageEntry}
use Rattle.lh_image.specs.Faults.{header_rows, size_rows, page_rows, first_fault_of, page_fault, image_fault, is_short}
use Rattle.lh_image.specs.Faults.{has_trailing}
use Rattle.lh_image.specs.Header.{HasHeader}
use Rattle.lh_image.specs.Layout.{header_of, image_bytes, page, view_of}
use Rattle.lh_image.specs.Listed.{IsViewKept, IsRead}
use Rattle.lh_image.specs.Filling.{IsCut}
use Rattle.lh_image.specs.Pages.{HaveCome, IsNoEnd}
use Rattle.lh_image.specs.Reading.{IsDueAnswer, IsDueFault, Leaves, judged, judged_by, reading_of}
use Rattle.lh_image.specs.Table.{next_in, bucket_in, entry_at, no_entry}
use Rattle.lh_image.specs.Version.{page_bytes, version_of}
use Rattle.lh_image.specs.View.{View, buckets, bucket, next, page_count}
use Rattle.lh_image.proofs.Faults.FirstAnswers.{first_behind}
use Rattle.lh_image.proofs.OfReading.FirstPage.{read_as}
use Rattle.lh_image.proofs.Images.ImageLaws.{is_view, some_pages, whole_rule}

-- ---- fewer pages

-- the bytes of a header's pages are those that the header of the bytes says
pub bytes_same : (bytes : List ℕ) (header : Header) → header ≡ header_of bytes →
    page_bytes (version_of bytes) * header.pages ≡ image_bytes bytes
bytes_same bytes header same = ap (λ (h : Header). page_bytes (version_of bytes) * h.pages) same

-- over plain numbers: of this many bytes there are to be at least `least`, and in all `all`
short_test : (n least all : ℕ) → n < all → (ltb n least || ltb n all) ≡ true
short_test n least all less = grind (arith, nat_tests)

enough_test : (n least all : ℕ) → least ≤ n → all ≤ n → (ltb n least || ltb n all) ≡ false
enough_test n least all low enough = grind (arith, nat_tests)

short_is : (bytes : List ℕ) (header : Header) (now : Option (List ℕ)) → HasHeader header bytes now →
    length bytes < page_bytes (version_of bytes) * header.pages → reading_of bytes ≡ Err Short
unfolding is_short image_fault first_fault_of
short_is bytes header now has less =
    let size : ℕ = page_bytes (version_of bytes) in
    let test : (ltb (length bytes) size || ltb (length bytes) (image_bytes bytes)) ≡ true =
    short_test (length bytes) size (image_bytes bytes) (rw (bytes_same bytes header has.fields) at less) in
    read_as bytes Short
    (first_behind (header_rows bytes) (size_rows bytes ++ page_rows (view_of bytes)) has.faultless ∙ rw test refl)

-- where not all pages of the header came, the reason for it is the fault that is due
pub cut_is : (bytes : List ℕ) (header : Header) (now : Option (List ℕ)) (f : ImageFault) → HasHeader header bytes now →
    IsCut bytes (page_bytes (version_of bytes) * header.pages) f → IsDueFault f (reading_of bytes)
cut_is bytes header now Short has cut = short_is bytes header now has cut
cut_is bytes header now ReadFault has cut = tt
cut_is bytes header now Memory has cut = tt
cut_is bytes header now f has cut = absurd cut

-- the same of the bytes that a reader had, where those are known
pub cut_told : (old mid : Option (List ℕ)) (header : Header) (f : ImageFault) →
    IfSome old (λ bytes. HasHeader header bytes mid) →
    ((bytes : List ℕ) → HasHeader header bytes mid → IsCut bytes (page_bytes (version_of bytes) * header.pages) f) →
    IfSome old (λ bytes. IsDueFault f (reading_of bytes))
cut_told None mid header f has cut = tt
cut_told (Some bytes) mid header f has cut = cut_is bytes header mid f has (cut bytes has)

-- ---- more bytes

long_is : (bytes : List ℕ) (header : Header) (now : Option (List ℕ)) → HasHeader header bytes now →
    page_bytes (version_of bytes) * header.pages < length bytes → reading_of bytes ≡ Err Trailing
unfolding is_short has_trailing image_fault first_fault_of
long_is bytes header now has more =
    let size : ℕ = page_bytes (version_of bytes) in
    let over : image_bytes bytes < length bytes = rw (bytes_same bytes header has.fields) at more in
    let test : (ltb (length bytes) size || ltb (length bytes) (image_bytes bytes)) ≡ false =
    enough_test (length bytes) size (image_bytes bytes) has.size (omega (arith, over)) in
    let long : ltb (image_bytes bytes) (length bytes) ≡ true = lt-ltb (image_bytes bytes) (length bytes) over in
    read_as bytes Trailing
    (first_behind (header_rows bytes) (size_rows bytes ++ page_rows (view_of bytes)) has.faultless
    ∙ rw (test, long) refl)

-- where pages came and what is behind them was read
abbrev pub HaveAll : List ℕ → Header → Option (List ℕ) → Option (List ℕ) → Type 0
HaveAll bytes header mid last =
    HasHeader header bytes mid × (page_bytes (version_of bytes) * header.pages ≤ length bytes)
    × (last ≡ Some (drop (page_bytes (version_of bytes) * header.pages) bytes))

end_is : (bytes : List ℕ) (header : Header) (mid now : Option (List ℕ)) (f : ImageFault) → HasHeader header bytes mid →
    page_bytes (version_of bytes) * header.pages ≤ length bytes →
    IsNoEnd (drop (page_bytes (version_of bytes) * header.pages) bytes) f now →
    IsDueFault f (reading_of bytes) × Leaves {X = Lists} (Err f) bytes now
end_is bytes header mid now Trailing has enough no_end =
    let all : ℕ = page_bytes (version_of bytes) * header.pages in
    let more : all < length bytes = omega (arith, no_end.0, length-drop all bytes) in
    let left : now ≡ Some (drop (image_bytes bytes + 1) bytes) =
    no_end.1 ∙ ap Some (drop-drop 1 all bytes)
    ∙ ap (λ n. Some (drop (n + 1) bytes)) (bytes_same bytes header has.fields) in
    (long_is bytes header mid has more, rw left (sym (take-append-drop (image_bytes bytes + 1) bytes)))
end_is bytes header mid now ReadFault has enough no_end = (tt, tt)
end_is bytes header mid now f has enough no_end = absurd no_end

-- where the last page isn't the end of the bytes, the reason for it is the fault that is due
pub end_told : (old mid last now : Option (List ℕ)) (header : Header) (f : ImageFault) →
    IfSome old (λ bytes. HaveAll bytes header mid last) → IfSome last (λ rest. IsNoEnd rest f now) →
    IfSome old (λ bytes. IsDueFault f (reading_of bytes))
end_told None mid last now header f all no_end = tt
end_told (Some bytes) mid last now header f all no_end =
    (end_is bytes header mid now f all.0 all.1 (rw all.2 at no_end)).0

-- where the last page isn't the end of the bytes, what is left is what that fault leaves
pub end_left : (old mid last now : Option (List ℕ)) (header : Header) (f : ImageFault) →
    IfSome old (λ bytes. HaveAll bytes header mid last) → IfSome last (λ rest. IsNoEnd rest f now) →
    IfSome old (λ bytes. Leaves {X = Lists} (Err f) bytes now)
end_left None mid last now header f all no_end = tt
end_left (Some bytes) mid last now header f all no_end =
    (end_is bytes header mid now f all.0 all.1 (rw all.2 at no_end)).1

-- ---- as many as there are

-- where all pages came and nothing was left behind them, the bytes were read to their end
pub all_read : (bytes : List ℕ) (mid last now : Option (List ℕ)) (header : Header) (entries : List PageEntry)
    (pairs : List Pair) (faults : PageFaults) → HasHeader header bytes mid →
    HaveCome bytes header header.pages entries pairs faults →
    last ≡ Some (drop (page_bytes (version_of bytes) * header.pages) bytes) →
    IfSome last (λ rest. (rest ≡ []) × (now ≡ Some [])) → IsRead bytes header entries pairs faults
all_read bytes mid last now header entries pairs faults has come left ended =
    let all : ℕ = page_bytes (version_of bytes) * header.pages in
    let none : drop all bytes ≡ [] = (rw left at ended).0 in
    record {
      come = come;
      faultless = has.faultless;
      size = omega (arith, come.enough, ap length none, length-drop all bytes);
    }

-- where all pages came, the bytes have as many, and what stands behind the pages is left
pub have_all : (old mid last : Option (List ℕ)) (header : Header) (entries : List PageEntry) (pairs : List Pair)
    (faults : PageFaults) → IfSome old (λ bytes. HasHeader header bytes mid) →
    ((bytes : List ℕ) → HasHeader header bytes mid →
    HaveCome bytes header header.pages entries pairs faults
    × (last ≡ Some (drop (page_bytes (version_of bytes) * header.pages) bytes))) →
    IfSome old (λ bytes. HaveAll bytes header mid last)
have_all None mid last header entries pairs faults has read = tt
have_all (Some bytes) mid last header entries pairs faults has read =
    let all = read bytes has in (has, all.0.enough, all.1)

-- the pages that the header tells of are all there is, so their View decides
judged_is : (bytes : List ℕ) (header : Header) (entries : List PageEntry) (pairs : List Pair) (faults : PageFaults) →
    1 ≤ header.pages → IsRead bytes header entries pairs faults → reading_of bytes ≡ judged (view_of bytes)
unfolding is_short has_trailing image_fault page_fault first_fault_of reading_of
judged_is bytes header entries pairs faults some read =
    let size : ℕ = page_bytes (version_of bytes) in
    let whole : length bytes ≡ image_bytes bytes = read.size ∙ bytes_same bytes header read.come.fields in
    let low : size ≤ image_bytes bytes =
    rw (bytes_same bytes header read.come.fields) at (some_pages size header.pages some) in
    let tests = (whole_rule (length bytes) size (image_bytes bytes) low).1 whole in
    ap (λ (o : Option ImageFault). judged_by o (view_of bytes))
    (first_behind (header_rows bytes) (size_rows bytes ++ page_rows (view_of bytes)) read.faultless
    ∙ rw (tests.0, tests.1) refl)

header_same : (bytes : List ℕ) → (view_of bytes).header ≡ header_of bytes
unfolding view_of
header_same bytes = refl

past_end : (bytes : List ℕ) (p : ℕ) → length bytes ≤ page_bytes (version_of bytes) * p →
    (next (view_of bytes) p ≡ 0) × (bucket (view_of bytes) p ≡ 0)
unfolding view_of page next_of bucket_of
past_end bytes p past =
    let w : ℕ = page_bytes (version_of bytes) in
    let empty : take w (drop (w * p) bytes) ≡ [] =
    ap (take w) (drop_all (w * p) bytes past) ∙ take_all w [] (omega arith) in
    elim (cases_eq p 0) [
      | inl first ↦ rw (next, bucket, eq-eqb p 0 first) (refl, refl)
      | inr other ↦ rw (next, bucket, ne_eqb p 0 other, empty) (refl, refl)
    ]

kept_is : (bytes : List ℕ) (header : Header) (entries : List PageEntry) (pairs : List Pair) (faults : PageFaults) →
    IsRead bytes header entries pairs faults → IsViewKept (view_of bytes) entries pairs faults
unfolding next_in bucket_in
kept_is bytes header entries pairs faults read =
    let v : View = view_of bytes in
    let same : header ≡ v.header = read.come.fields ∙ sym (header_same bytes) in
    let counted : header.pages ≡ page_count v = ap (λ (h : Header). h.pages) same in
    let kept = read.come.kept in
    let none : (p : ℕ) → header.pages ≤ p → entry_at entries p ≡ no_entry =
    λ p past. get_or_past entries p no_entry (omega (arith, kept.size)) in
    let beyond : (p : ℕ) → header.pages ≤ p → length bytes ≤ page_bytes (version_of bytes) * p =
    λ p past. omega (arith, read.size, mul-le-mul_left (page_bytes (version_of bytes)) past) in
    let nexts : (p : ℕ) → next_in entries p ≡ next v p = λ p. elim (cases_lt p header.pages) [
      | inl within ↦ kept.next p within
      | inr past ↦ ap (λ e. e.next) (none p past) ∙ sym (past_end bytes p (beyond p past)).0
    ] in
    let buckets_are : (p : ℕ) → bucket_in entries p ≡ bucket v p = λ p. elim (cases_lt p header.pages) [
      | inl within ↦ kept.bucket p within
      | inr past ↦ ap (λ e. e.bucket) (none p past) ∙ sym (past_end bytes p (beyond p past)).1
    ] in
    let size : length entries ≡ page_count v = kept.size ∙ counted in
    record {
      view = is_view bytes;
      links = λ i. record { next = λ p. nexts p i; bucket = λ p. buckets_are p i; heads = buckets v; pages = size i };
      records = λ p low high. kept.records p low (omega (arith, counted));
      noted = rw counted at read.come.noted;
    }

-- the answer to the View of the bytes
abbrev pub AnswersView : Header → List PageEntry → List Pair → PageFaults → Result Lists ImageFault → Type 0
AnswersView header entries pairs faults result =
    (v : View) → v.header ≡ header → IsViewKept v entries pairs faults →
    IsDueAnswer (λ listing l. listing ≡ l) result (judged v)

-- where the bytes were read to their end, the answer to their View is the one that is due
pub exact_is : (bytes : List ℕ) (header : Header) (entries : List PageEntry) (pairs : List Pair) (faults : PageFaults)
    (result : Result Lists ImageFault) → 1 ≤ header.pages → IsRead bytes header entries pairs faults →
    AnswersView header entries pairs faults result → IsDueAnswer (λ listing l. listing ≡ l) result (reading_of bytes)
exact_is bytes header entries pairs faults result some read exact =
    rw (judged_is bytes header entries pairs faults some read)
    (exact (view_of bytes) (header_same bytes ∙ sym read.come.fields)
    (kept_is bytes header entries pairs faults read))

-- where all pages came and nothing was left behind them, the answer to their View is the one that is due
pub answered : (old mid last now : Option (List ℕ)) (header : Header) (entries : List PageEntry) (pairs : List Pair)
    (faults : PageFaults) (result : Result Lists ImageFault) → 1 ≤ header.pages →
    IfSome old (λ bytes. HasHeader header bytes mid) →
    ((bytes : List ℕ) → HasHeader header bytes mid →
    HaveCome bytes header header.pages entries pairs faults
    × (last ≡ Some (drop (page_bytes (version_of bytes) * header.pages) bytes))) →
    IfSome last (λ rest. (rest ≡ []) × (now ≡ Some [])) →
    AnswersView header entries pairs faults result →
    IfSome old (λ bytes. IsDueAnswer (λ listing l. listing ≡ l) result (reading_of bytes))
answered None mid last now header entries pairs faults result some has read ended exact = tt
answered (Some bytes) mid last now header entries pairs faults result some has read ended exact =
    let all = read bytes has in
    exact_is bytes header entries pairs faults result some
    (all_read bytes mid last now header entries pairs faults has all.0 all.1 ended) exact

-- ---- an image

no_fault_from : (o : Option ImageFault) (v : View) (l : Lists) → judged_by o v ≡ Ok l → (o ≡ None) × (listing_of v ≡ l)
no_fault_from (Some f) v l e = absurd cc
no_fault_from None v l e = (refl, cc)

whole_from : (bytes : List ℕ) (l : Lists) → reading_of bytes ≡ Ok l →
    (image_fault bytes ≡ None) × (listing_of (view_of bytes) ≡ l)
unfolding reading_of
whole_from bytes l e = no_fault_from (image_fault bytes) (view_of bytes) l e

each_byte_of : (bytes : List ℕ) (header : Header) (entries : List PageEntry) (pairs : List Pair) (faults : PageFaults) →
    IsRead bytes header entries pairs faults → AreBytes bytes
each_byte_of bytes header entries pairs faults read i =
    elim (cases_lt i (page_bytes (version_of bytes) * header.pages)) [
      | inl within ↦ read.come.each_byte i within
      | inr past ↦ let none : get_or bytes i 0 ≡ 0 =
          get_or_past bytes i 0 (omega (arith, read.size)) in omega (arith, none)
    ]

-- bytes that were read to their end are an image of the listing that is answered
pub image_is : (bytes : List ℕ) (header : Header) (entries : List PageEntry) (pairs : List Pair) (faults : PageFaults)
    (result : Result Lists ImageFault) → ImageLaw → 1 ≤ header.pages → IsRead bytes header entries pairs faults →
    AnswersView header entries pairs faults result → IfOk result (λ listing. IsImage bytes listing)
image_is bytes header entries pairs faults (Err f) law some read exact = tt
image_is bytes header entries pairs faults (Ok x) law some read exact =
    let answer = exact_is bytes header entries pairs faults (Ok x) some read exact in
    let whole = whole_from bytes answer.0 answer.1 in
    (law bytes x (each_byte_of bytes header entries pairs faults read)).1 (whole.0, answer.2 ∙ sym whole.1)

-- the same of bytes whose pages all came, with nothing left behind them
pub image_read : (old mid last now : Option (List ℕ)) (header : Header) (entries : List PageEntry) (pairs : List Pair)
    (faults : PageFaults) (result : Result Lists ImageFault) → ImageLaw → 1 ≤ header.pages →
    IfSome old (λ bytes. HasHeader header bytes mid) →
    ((bytes : List ℕ) → HasHeader header bytes mid →
    HaveCome bytes header header.pages entries pairs faults
    × (last ≡ Some (drop (page_bytes (version_of bytes) * header.pages) bytes))) →
    IfSome last (λ rest. (rest ≡ []) × (now ≡ Some [])) →
    AnswersView header entries pairs faults result →
    IfSome old (λ bytes. IfOk result (λ listing. IsImage bytes listing))
image_read None mid last now header entries pairs faults result law some has read ended exact = tt
image_read (Some bytes) mid last now header entries pairs faults result law some has read ended exact =
    let all = read bytes has in
    image_is bytes header entries pairs faults result law some
    (all_read bytes mid last now header entries pairs faults has all.0 all.1 ended) exact
