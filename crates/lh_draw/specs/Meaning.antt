-- What a drawing means: a box is a page, coloured as far as it is used, and each bucket stands in one column
use Rattle.std.specs.Prelude.{◌≡◌, ◌⊎◌, ◌↔◌, ℕ, ◌+◌, ◌/◌, ◌<◌, ◌≤◌, List, [], ◌∷◌, length, Some, min, nat_lt}
use Rattle.std.specs.Prelude.{slice_index_or, flat_map}
use Rattle.lh_addr.specs.Growth.{level, level_of}
use Rattle.lh_bucket.specs.Listing.{Lists, list_at, size}
use Rattle.lh_page.specs.PackedList.{pages_of}
use Rattle.lh_draw.specs.Columns.{chain_length, column_count, end_bucket, first_bucket, group_size, whole_tally}
use Rattle.lh_draw.specs.Drawing.{columns_text, in_turn, legend_of, page_bar, part_of}
use Rattle.lh_draw.specs.DrawingTexts.{bar_text}
use Rattle.lh_draw.specs.Sizes.{most_drawn}
use Rattle.lh_draw.specs.declared.bars.Bar.{Bar}

-- a box for each page of a bucket that is drawn, from the floor up
abbrev pub boxes_at : Lists → ℕ → List Bar
boxes_at l bucket =
    in_turn (λ page. page_bar l bucket page ∷ [])
    (min (chain_length l.config.capacity (list_at l.lists bucket)) most_drawn)

-- the boxes of all buckets
abbrev pub boxes_of : Lists → List Bar
boxes_of l = in_turn (boxes_at l) (size l)

-- the columns are these boxes and no more, as many as the file has pages
pub record IsBoxes (l : Lists) : Type 0 where
  pub drawn : columns_text l ≡ flat_map bar_text (boxes_of l)
  pub as_many : length (boxes_of l) ≡ (whole_tally l).pages

-- Of a file of 128 buckets or fewer, with no chain of more pages than are drawn, each page is drawn as a box.
abbrev pub BoxLaw : Type 0
BoxLaw = (l : Lists) → size l ≤ 128 → (whole_tally l).longest ≤ most_drawn → IsBoxes l

-- the number of records on a page of a bucket
abbrev pub used_on : Lists → ℕ → ℕ → ℕ
used_on l bucket page = length (slice_index_or (pages_of l.config.capacity (list_at l.lists bucket)) page [])

-- a box is coloured by its bucket's level, for such a part of its height as its page is used
pub record IsColoured (l : Lists) (bucket page : ℕ) : Type 0 where
  pub used : (page_bar l bucket page).used
      ≡ part_of (page_bar l bucket page).height (used_on l bucket page) l.config.capacity
  pub colour : (page_bar l bucket page).is_next
      ≡ nat_lt (level l.config.initial (size l)) (level_of l.config.initial (size l) bucket)

-- Each box is coloured as far as its page is used.
abbrev pub ColourLaw : Type 0
ColourLaw = (l : Lists) (bucket page : ℕ) → 1 ≤ l.config.capacity →
    page < chain_length l.config.capacity (list_at l.lists bucket) → IsColoured l bucket page

-- one box is above the other, or to its left
abbrev pub AreApart : Bar → Bar → Type 0
AreApart one other = (one.foot + one.height < other.foot) ⊎ (one.left + one.width ≤ other.left)

-- Two boxes of a bucket, and boxes of two buckets, don't overlap.
pub record ApartLaw : Type 0 where
  pub pages : (l : Lists) (bucket page later : ℕ) → page < later →
      AreApart (page_bar l bucket page) (page_bar l bucket later)
  pub buckets : (l : Lists) (bucket later page other : ℕ) → bucket < later →
      AreApart (page_bar l bucket page) (page_bar l later other)

-- a column shows a bucket
pub record IsColumnOf (buckets bucket column : ℕ) : Type 0 where
  pub within : column < column_count buckets
  pub from_first : first_bucket buckets column ≤ bucket
  pub to_last : bucket < end_bucket buckets column

-- Each bucket is shown by one column.
abbrev pub ColumnLaw : Type 0
ColumnLaw = (buckets bucket column : ℕ) → bucket < buckets →
    IsColumnOf buckets bucket column ↔ (column ≡ bucket / group_size buckets)

-- The legend names the level of each bucket.
abbrev pub LegendLaw : Type 0
LegendLaw = (l : Lists) (bucket : ℕ) → bucket < size l →
    (level_of l.config.initial (size l) bucket ≡ (legend_of l).level)
    ⊎ ((legend_of l).next ≡ Some (level_of l.config.initial (size l) bucket))
