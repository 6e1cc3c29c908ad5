-- The image that is written: overflow pages in the order of bucket and place
use Rattle.std.specs.Prelude.{◌≡◌, ℕ, zero, suc, ◌+◌, ◌-◌, ◌*◌, ◌≤◌, List, [], ◌++◌, length, slice_index_or, ◌==◌}
use Rattle.std.specs.Prelude.{if◌then◌else◌}
use Rattle.std.specs.List.{range_with_len, flat_map}
use Rattle.lh_addr.specs.Growth.{level_of}
use Rattle.lh_page.specs.declared.page.Page.{Page}
use Rattle.lh_page.specs.declared.page.PageKind.TheVariants.{Primary, Overflow}
use Rattle.lh_page.specs.declared.pair.Pair.{Pair}
use Rattle.lh_page.specs.PackedList.{pages_of}
use Rattle.lh_page.specs.PageTable.{page_text}
use Rattle.lh_bucket.specs.Listing.{Lists, IsListing, size, list_at}
use Rattle.lh_image.specs.declared.version.Version.{Version}
use Rattle.lh_image.specs.Fitting.{FitsVersion}
use Rattle.lh_image.specs.Image.{IsImage, header_for}
use Rattle.lh_image.specs.Layout.{most_pages, header_text}
use Rattle.lh_image.specs.Version.{format_of, page_bytes}

-- the records of the pages of bucket i
abbrev pub pages_in : Lists → ℕ → List (List Pair)
pages_in l i = pages_of l.config.capacity (list_at l.lists i)

-- the number of pages of bucket i
unfoldable pub page_count_in : Lists → ℕ → ℕ
page_count_in l i = length (pages_in l i)

-- the number of overflow pages of the first n buckets
unfoldable pub overflow_before : Lists → ℕ → ℕ
overflow_before l zero = 0
overflow_before l (suc n) = overflow_before l n + (page_count_in l n - 1)

-- the number of pages: the header, a primary page for each bucket, and the overflow pages
abbrev pub page_total : Lists → ℕ
page_total l = 1 + size l + overflow_before l (size l)

-- the number in the file of page k of bucket i: the primary pages come first,
-- then the overflow pages in the order of bucket and place
abbrev pub page_number : Lists → ℕ → ℕ → ℕ
page_number l i zero = 1 + i
page_number l i (suc k) = 1 + size l + overflow_before l i + k

-- page k of bucket i, which names the next one of the chain, if there is one
abbrev pub page_in : Lists → ℕ → ℕ → Page
page_in l i k = record {
  kind = if k == 0 then Primary else Overflow;
  level = level_of l.config.initial (size l) i;
  bucket = i;
  next = if k + 1 == page_count_in l i then 0 else page_number l i (suc k);
  pairs = slice_index_or (pages_in l i) k [];
}

-- the bytes of page k of bucket i
unfoldable pub text_in : Version → Lists → ℕ → ℕ → List ℕ
text_in version l i k = page_text (format_of version) (page_in l i k)

-- the bytes of the overflow pages of bucket i
unfoldable pub overflow_text : Version → Lists → ℕ → List ℕ
overflow_text version l i = flat_map (text_in version l i) (range_with_len 1 (page_count_in l i - 1))

-- the image that is written in a version: the header, the primary pages,
-- and the overflow pages in the order of bucket and place
unfoldable pub canonical : Version → Lists → List ℕ
canonical version l =
    header_text (header_for version l (page_total l))
    ++ (flat_map (λ i. text_in version l i 0) (range_with_len 0 (size l))
    ++ flat_map (overflow_text version l) (range_with_len 0 (size l)))

-- What is written in a version for which the listing is fit has the bytes of its pages.
abbrev pub LengthLaw : Type 0
LengthLaw =
    (version : Version) (l : Lists) → IsListing l → FitsVersion version l → page_total l ≤ most_pages →
    length (canonical version l) ≡ page_bytes version * page_total l

-- What is written in a version for which the listing is fit is an image of the listing.
abbrev pub CanonicalLaw : Type 0
CanonicalLaw =
    (version : Version) (l : Lists) → IsListing l → FitsVersion version l → page_total l ≤ most_pages →
    IsImage (canonical version l) l
