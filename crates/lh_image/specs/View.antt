-- What an image shows, whatever the format of its bytes
use Rattle.std.specs.Prelude.{◌≡◌, ℕ, ◌-◌, ◌≤◌, List, length, Option}
use Rattle.std.specs.List.{range_with_len}
use Rattle.lh_page.specs.declared.head.PageHead.{PageHead}
use Rattle.lh_page.specs.declared.pair.Pair.{Pair}
use Rattle.lh_image.specs.declared.header.Header.{Header}
use Rattle.lh_image.specs.Chains.{Links, chain}

-- the header, and of each page by its number the head, the records and the first bad slot
pub record View : Type 0 where
  pub header : Header
  pub head : ℕ → PageHead
  pub records : ℕ → List Pair
  pub bad_slot : ℕ → Option ℕ

-- ---- the header's numbers

abbrev pub initial : View → ℕ
initial v = v.header.config.initial

abbrev pub capacity : View → ℕ
capacity v = v.header.config.capacity

abbrev pub buckets : View → ℕ
buckets v = v.header.buckets

abbrev pub page_count : View → ℕ
page_count v = v.header.pages

abbrev pub record_count : View → ℕ
record_count v = v.header.records

-- ---- the pages

-- the numbers of all pages but the header, of this many pages
unfoldable pub numbers : ℕ → List ℕ
numbers pages = range_with_len 1 (pages - 1)

abbrev pub used : View → ℕ → ℕ
used v p = (v.head p).used

abbrev pub bucket : View → ℕ → ℕ
bucket v p = (v.head p).bucket

-- the page that follows in the chain, 0 for none
abbrev pub next : View → ℕ → ℕ
next v p = (v.head p).next

-- where the pages lead
abbrev pub links : View → Links
links v = record { next = next v; bucket = bucket v; heads = buckets v; pages = page_count v }

-- the pages of bucket i
abbrev pub chain_of : View → ℕ → List ℕ
chain_of v i = chain (next v) (page_count v) i

-- the header is on no chain, and a page has as many records as its head says
pub record IsView (v : View) : Type 0 where
  pub none : next v 0 ≡ 0
  pub counted : (p : ℕ) → 1 ≤ p → length (v.records p) ≡ used v p
