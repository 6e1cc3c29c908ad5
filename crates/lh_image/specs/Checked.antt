-- An image that was checked
use Rattle.std.specs.Prelude.{◌≡◌, ℕ, ◌/◌, ◌^◌, ◌<◌, ◌≤◌, List, [], length, slice_index, slice_index_or}
use Rattle.lh_addr.specs.Extent.{Extent}
use Rattle.lh_addr.specs.Fnv.{code_of}
use Rattle.lh_page.specs.declared.format.Format.{Format}
use Rattle.lh_page.specs.PageFields.{next_of, pair_of, used_of}
use Rattle.lh_page.specs.PageTable.{slot}
use Rattle.lh_image.specs.declared.checked.index.PageIndex.{PageIndex}
use Rattle.lh_image.specs.declared.header.Header.{Header}
use Rattle.lh_image.specs.Image.{IsImage, listing_of}
use Rattle.lh_image.specs.Layout.{page, view_of}
use Rattle.lh_image.specs.LookUp.{IsOpenedImage}
use Rattle.lh_image.specs.Version.{format_of, version_of}

-- the byte of a code that tells most keys apart
abbrev pub code_mark : ℕ → ℕ
code_mark code = code / 2 ^ 56

-- of a page its number of records, the page that follows, and the mark of each key
pub record IsIndexed (f : Format) (bytes : List ℕ) (entry : PageIndex) : Type 0 where
  pub used : entry.used ≡ used_of bytes
  pub next : entry.next ≡ next_of bytes
  pub marks : (i : ℕ) → i < used_of bytes →
      slice_index entry.marks i ≡ code_mark (code_of (pair_of f (slot f bytes i)).key)

-- what stands where there is no page
abbrev pub no_index : PageIndex
no_index = record { marks = []; used = 0; next = 0 }

abbrev pub index_at : List PageIndex → ℕ → PageIndex
index_at index p = slice_index_or index p no_index

-- the first n pages of the bytes have their entries
pub record AreIndexed (bytes : List ℕ) (n : ℕ) (index : List PageIndex) : Type 0 where
  pub size : length index ≡ n
  pub pages : (p : ℕ) → 1 ≤ p → p < n → IsIndexed (format_of (version_of bytes)) (page bytes p) (index_at index p)

-- the bytes were opened, and are an image of the listing that they show; each page has its entry
pub record IsChecked (bytes : List ℕ) (header : Header) (root : Extent) (index : List PageIndex) : Type 0 where
  pub opened : IsOpenedImage bytes header root
  pub image : IsImage bytes (listing_of (view_of bytes))
  pub pages : AreIndexed bytes header.pages index
