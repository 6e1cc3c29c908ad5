-- Which bytes are an image of which listing
use Rattle.std.specs.Prelude.{◌≡◌, ℕ, ◌*◌, ◌<◌, ◌≤◌, ◌↔◌, List, length, map, None, nat_le, if◌then◌else◌}
use Rattle.std.specs.List.{range_with_len, flat_map}
use Rattle.lh_addr.specs.Growth.{level_of}
use Rattle.lh_page.specs.PackedList.{IsPacked}
use Rattle.lh_page.specs.PageLaws.{AreBytes}
use Rattle.lh_page.specs.PageTable.{IsPage, IsWritable}
use Rattle.lh_bucket.specs.Listing.{Lists, IsListing, size, list_at, count_of}
use Rattle.lh_image.specs.Chains.{IsCovered}
use Rattle.lh_image.specs.Faults.{image_fault}
use Rattle.lh_image.specs.declared.header.Header.{Header}
use Rattle.lh_image.specs.declared.version.Version.{Version}
use Rattle.lh_image.specs.Layout.{most_pages, header_of, header_text, page, page_at, view_of}
use Rattle.lh_image.specs.Version.{format_of, page_bytes, slots, version_of}
use Rattle.lh_image.specs.View.{View, buckets, bucket, next, chain_of}

-- the header of a listing in P pages
abbrev pub header_for : Version → Lists → ℕ → Header
header_for version l P = record {
  version = version;
  config = l.config;
  buckets = size l;
  pages = P;
  records = count_of l.lists;
}

-- P pages show a listing, with a path of page numbers for each bucket.
pub record Shows (v : View) (l : Lists) (P : ℕ) (path : ℕ → List ℕ) : Type 0 where
  -- each record stands in the list of its bucket, and no key twice
  pub listing : IsListing l
  -- there are not too many pages, each has slots for as many records as it may hold,
  -- and the header has the listing's numbers
  pub few : P ≤ most_pages
  pub room : l.config.capacity ≤ slots v.header.version
  pub header : v.header ≡ header_for v.header.version l P
  -- primary pages come first, and each page has its bucket's local level
  pub kinds : (p : ℕ) → 1 ≤ p → p < P → (v.head p).kind ≡ (if nat_le p (size l) then 1 else 2)
  pub levels : (p : ℕ) → 1 ≤ p → p < P → (v.head p).level ≡ level_of l.config.initial (size l) (bucket v p)
  -- each page stands on the path of its bucket, whose pages hold the bucket's records, packed
  pub paths : IsCovered (next v) (bucket v) (size l) P path
  pub content : (i : ℕ) → i < size l → flat_map v.records (path i) ≡ list_at l.lists i
  pub packed : (i : ℕ) → i < size l → IsPacked l.config.capacity (map v.records (path i))

-- The bytes are P whole pages of their version: page 0 spells the header, the others are pages,
-- and they show the listing.
pub record IsImageBy (bytes : List ℕ) (l : Lists) (P : ℕ) (path : ℕ → List ℕ) : Type 0 where
  pub whole : length bytes ≡ page_bytes (version_of bytes) * P
  pub spelled : page bytes 0 ≡ header_text (header_of bytes)
  pub pages : (p : ℕ) → 1 ≤ p → p < P →
      IsPage (format_of (version_of bytes)) (page bytes p) (page_at bytes p)
      × IsWritable (format_of (version_of bytes)) (page_at bytes p)
  pub shown : Shows (view_of bytes) l P path

-- the bytes are an image of the listing
abbrev pub IsImage : List ℕ → Lists → Type 0
IsImage bytes l = (P : ℕ) × (path : ℕ → List ℕ) × IsImageBy bytes l P path

-- the listing that pages without a fault show
unfoldable pub listing_of : View → Lists
listing_of v = record {
  config = v.header.config;
  lists = map (λ i. flat_map v.records (chain_of v i)) (range_with_len 0 (buckets v));
}

-- An image has no fault, and no other listing.
abbrev pub OneListingLaw : Type 0
OneListingLaw =
    (bytes : List ℕ) (l : Lists) → IsImage bytes l → (image_fault bytes ≡ None) × (l ≡ listing_of (view_of bytes))

-- Bytes have no fault exactly where they are an image of a listing, and then of that one alone.
abbrev pub ImageLaw : Type 0
ImageLaw =
    (bytes : List ℕ) (l : Lists) → AreBytes bytes →
    IsImage bytes l ↔ ((image_fault bytes ≡ None) × (l ≡ listing_of (view_of bytes)))
