-- The bytes of a page, by offset, size and content. Numbers are little-endian.
use Rattle.std.specs.Prelude.{◌≡◌, ◌≢◌, ℕ, ◌^◌, ◌<◌, List, [], ◌∷◌, ◌++◌, length, slice_get, Option, Some, None}
use Rattle.std.specs.List.{flat_map, range_with_len}
use Rattle.byteorder.specs.Endian.{little_bytes}
use Rattle.lh_page.specs.declared.format.Format.{Format}
use Rattle.lh_page.specs.declared.page.Page.{Page}
use Rattle.lh_page.specs.declared.page.PageKind.{PageKind}
use Rattle.lh_page.specs.declared.page.PageKind.TheVariants.{Primary, Overflow}
use Rattle.lh_page.specs.declared.pair.Pair.{Pair}
use Rattle.lh_page.specs.Format.{slot_size, slot_start, page_size, FitsFormat}
use Rattle.lh_page.specs.Rows.{zeros, padded, field}

-- slot i of a page
abbrev pub slot : Format → List ℕ → ℕ → List ℕ
slot f bytes i = field bytes (slot_start f i) (slot_size f)

-- the byte of a page's kind
abbrev pub kind_byte : PageKind → ℕ
kind_byte Primary = 1
kind_byte Overflow = 2

-- A slot: at 0 the key's length, at 1 the value's length, at 2 the key in its room, then the value in its room.
-- A slot without a record is all zeros.
abbrev pub slot_text : Format → Option Pair → List ℕ
slot_text f None = zeros (slot_size f)
slot_text f (Some pair) = length pair.key ∷ length pair.value ∷ padded f.key pair.key ++ padded f.value pair.value

-- A page: each line gives an offset, a size and what stands there.
pub record IsPage (f : Format) (bytes : List ℕ) (page : Page) : Type 0 where
  pub size : length bytes ≡ page_size f
  pub kind : field bytes 0 1 ≡ kind_byte page.kind ∷ []
  pub used : field bytes 1 1 ≡ length page.pairs ∷ []
  pub level : field bytes 2 1 ≡ page.level ∷ []
  pub reserved : field bytes 3 1 ≡ zeros 1
  pub bucket : field bytes 4 4 ≡ little_bytes 4 page.bucket
  pub next : field bytes 8 4 ≡ little_bytes 4 page.next
  pub padding : field bytes 12 4 ≡ zeros 4
  pub slots : (i : ℕ) → i < f.slots → slot f bytes i ≡ slot_text f (slice_get page.pairs i)

-- a page whose fields fit their sizes
pub record IsWritable (f : Format) (page : Page) : Type 0 where
  pub bucket : page.bucket < 2 ^ 32
  pub next : page.next < 2 ^ 32
  pub pairs : FitsFormat f page.pairs

-- the first 16 bytes of a page
abbrev pub head_text : Page → List ℕ
head_text page =
    kind_byte page.kind ∷ length page.pairs ∷ page.level ∷ 0
    ∷ little_bytes 4 page.bucket ++ little_bytes 4 page.next ++ zeros 4

-- a page as one row of bytes: its head, then its slots
unfoldable pub page_text : Format → Page → List ℕ
page_text f page = head_text page ++ flat_map (λ i. slot_text f (slice_get page.pairs i)) (range_with_len 0 f.slots)

-- only one slot is written
pub record WritesSlot (f : Format) (old new : List ℕ) (place : ℕ) (pair : Pair) : Type 0 where
  pub size : length new ≡ length old
  pub written : slot f new place ≡ slot_text f (Some pair)
  pub others : (i : ℕ) → i < f.slots → i ≢ place → slot f new i ≡ slot f old i
  pub head : field new 0 16 ≡ field old 0 16
