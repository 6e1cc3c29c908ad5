-- The bytes of an image, by page, offset and size. An image is a row of pages of 1,024 bytes, or of 4,096 in version 2:
-- page 0 is the header, page 1 + i is the primary page of bucket i, and behind those come overflow pages. Numbers are
-- little-endian.
use Rattle.std.specs.Prelude.{ℕ, ◌*◌, ◌-◌, Bool, true, List, ◌++◌, take, drop, replicate, ◌==◌, if◌then◌else◌}
use Rattle.byteorder.specs.Endian.{little_from, little_bytes}
use Rattle.lh_page.specs.declared.head.PageHead.{PageHead}
use Rattle.lh_page.specs.declared.page.Page.{Page}
use Rattle.lh_page.specs.PageFields.{all_zero, head_of, pairs_of, bad_slot, page_of}
use Rattle.lh_image.specs.declared.header.Header.{Header}
use Rattle.lh_image.specs.declared.version.Version.{Version}
use Rattle.lh_image.specs.Version.{magic, format_of, page_bytes, version_of}
use Rattle.lh_image.specs.View.{View}

-- the most pages that an image may have, the header's among them
abbrev pub most_pages : ℕ
most_pages = 1048576

-- ---- the header

-- where each field begins, behind the bytes of the version
abbrev pub initial_offset : ℕ
initial_offset = 4

abbrev pub capacity_offset : ℕ
capacity_offset = 8

abbrev pub load_offset : ℕ
load_offset = 12

abbrev pub buckets_offset : ℕ
buckets_offset = 16

abbrev pub max_offset : ℕ
max_offset = 20

abbrev pub pages_offset : ℕ
pages_offset = 24

abbrev pub records_offset : ℕ
records_offset = 28

-- where the fields end, and the bytes from there to the end of the page
abbrev pub fields_end : ℕ
fields_end = 36

abbrev pub padding : Version → ℕ
padding version = page_bytes version - fields_end

-- the header that the bytes show
unfoldable pub header_of : List ℕ → Header
header_of bytes = record {
  version = version_of bytes;
  config = record {
    initial = little_from initial_offset 4 bytes;
    capacity = little_from capacity_offset 4 bytes;
    load = little_from load_offset 4 bytes;
    max = little_from max_offset 4 bytes;
  };
  buckets = little_from buckets_offset 4 bytes;
  pages = little_from pages_offset 4 bytes;
  records = little_from records_offset 8 bytes;
}

-- whether the bytes behind the header's fields are zeros
abbrev pub ends_in_zeros : List ℕ → Bool
ends_in_zeros bytes = all_zero (take (padding (version_of bytes)) (drop fields_end bytes))

-- the bytes of the numbers of a header
abbrev pub number_text : Header → List ℕ
number_text h =
    little_bytes 4 h.config.initial ++ little_bytes 4 h.config.capacity ++ little_bytes 4 h.config.load
    ++ little_bytes 4 h.buckets ++ little_bytes 4 h.config.max ++ little_bytes 4 h.pages ++ little_bytes 8 h.records

-- the bytes of a header's page
abbrev pub header_text : Header → List ℕ
header_text h = magic h.version ++ number_text h ++ replicate (padding h.version) 0

-- ---- the other pages, by their numbers

-- the bytes of page p
unfoldable pub page : List ℕ → ℕ → List ℕ
page bytes p = let size = page_bytes (version_of bytes) in take size (drop (size * p) bytes)

-- what page p shows
abbrev pub page_at : List ℕ → ℕ → Page
page_at bytes p = page_of (format_of (version_of bytes)) (page bytes p)

-- the bytes of as many pages as the header says
abbrev pub image_bytes : List ℕ → ℕ
image_bytes bytes = page_bytes (version_of bytes) * (header_of bytes).pages

-- what stands for the head of page 0
abbrev pub no_head : PageHead
no_head = record { kind = 0; used = 0; level = 0; clear = true; bucket = 0; next = 0 }

-- what the bytes show
unfoldable pub view_of : List ℕ → View
view_of bytes = record {
  header = header_of bytes;
  head = λ p. if p == 0 then no_head else head_of (page bytes p);
  records = λ p. pairs_of (format_of (version_of bytes)) (page bytes p);
  bad_slot = λ p. bad_slot (format_of (version_of bytes)) (page bytes p);
}
