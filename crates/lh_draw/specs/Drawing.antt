-- What is drawn of a file: a column for each bucket, or for each group of buckets where there are many.
-- Meaning.antt says what that means.
use Rattle.std.specs.Prelude.{ℕ, zero, suc, ◌+◌, ◌-◌, ◌*◌, ◌/◌, min, max, if◌then◌else◌, List, [], ◌++◌, length, Option}
use Rattle.std.specs.Prelude.{None, Some}
use Rattle.lh_addr.specs.Growth.{level, level_of, pointer}
use Rattle.lh_bucket.specs.Listing.{Lists, size, list_at}
use Rattle.lh_draw.specs.Columns.{bar_width, centre, chain_length, column_count, end_bucket, first_bucket, group_size}
use Rattle.lh_draw.specs.Columns.{is_detailed, is_next_level, label_step, left, lists_between, tally_of, whole_tally}
use Rattle.lh_draw.specs.DrawingTexts.{bar_text, canvas_text, caption_text, cuts_text, label_text, legend_text}
use Rattle.lh_draw.specs.DrawingTexts.{mark_text, more_text, plot_text, title_text}
use Rattle.lh_draw.specs.Sizes.{head_height, most_drawn, most_places, page_gap, page_height, page_step}
use Rattle.lh_draw.specs.declared.bars.Bar.{Bar}
use Rattle.lh_draw.specs.declared.elements.Canvas.{Canvas}
use Rattle.lh_draw.specs.declared.bars.Cuts.{Cuts}
use Rattle.lh_draw.specs.declared.elements.Label.{Label}
use Rattle.lh_draw.specs.declared.elements.Legend.{Legend}
use Rattle.lh_draw.specs.declared.elements.Mark.{Mark}
use Rattle.lh_draw.specs.declared.bars.More.{More}
use Rattle.lh_draw.specs.declared.elements.Title.{Title}
use Rattle.lh_draw.specs.declared.tally.Tally.{Tally}

-- ---- the parts of a drawing; lengths are in pixels

-- such a part of a height as is used of some slots
abbrev pub part_of : ℕ → ℕ → ℕ → ℕ
part_of height used slots = height * used / slots

-- how high the records of some slots stand, of which a page's are as high as the step to the next page, up to a limit
abbrev pub filling_of : ℕ → ℕ → ℕ → ℕ
filling_of records slots most = min (page_step * records / slots) most

-- the floor is below the head and the longest chain that is drawn, with a number for the pages that are not
abbrev pub floor_of : ℕ → ℕ
floor_of longest = head_height + page_step * min longest most_places

unfoldable pub canvas_of : Lists → Canvas
canvas_of l = record {
  width = 48 + max (left (size l) (column_count (size l))) 600;
  height = floor_of (whole_tally l).longest + 56;
}

-- the pages are counted with the header, as `check` does
unfoldable pub title_of : Lists → Title
title_of l = record {
  buckets = size l;
  level = level l.config.initial (size l);
  pointer = pointer l.config.initial (size l);
  records = (whole_tally l).records;
  pages = (whole_tally l).pages + 1;
  longest = (whole_tally l).longest;
}

-- the level above the file's, where buckets have it: bucket 0 is the first that a split gives it to
unfoldable pub level_above : Lists → Option ℕ
level_above l = if is_next_level l 0 then Some (level_of l.config.initial (size l) 0) else None

unfoldable pub legend_of : Lists → Legend
legend_of l = record {
  level = level l.config.initial (size l);
  next = level_above l;
  group = group_size (size l);
}

-- page p of a bucket, used as far as it has records
unfoldable pub page_bar : Lists → ℕ → ℕ → Bar
page_bar l bucket p =
    let capacity : ℕ = l.config.capacity in
    record {
      left = left (size l) bucket;
      foot = page_step * p;
      width = bar_width (size l);
      height = page_height;
      used = part_of page_height (min (length (list_at l.lists bucket) - capacity * p) capacity) capacity;
      is_next = is_next_level l bucket;
    }

unfoldable pub more_of : Lists → ℕ → More
more_of l bucket = record {
  centre = centre (size l) bucket;
  pages = chain_length l.config.capacity (list_at l.lists bucket);
}

-- the buckets of a column, counted
abbrev pub group_tally : Lists → ℕ → Tally
group_tally l column =
    tally_of l.config.capacity (lists_between l (first_bucket (size l) column) (end_bucket (size l) column))

-- a column of a group: as high as its longest chain, and used as high as a bucket is on average
unfoldable pub group_bar : Lists → ℕ → Bar
group_bar l column =
    let slots : ℕ = l.config.capacity * (end_bucket (size l) column - first_bucket (size l) column) in
    let height : ℕ = page_step * min (group_tally l column).longest most_drawn - page_gap in
    record {
      left = left (size l) column;
      foot = 0;
      width = bar_width (size l);
      height = height;
      used = filling_of (group_tally l column).records slots height;
      is_next = is_next_level l (first_bucket (size l) column);
    }

unfoldable pub cuts_of : Lists → Cuts
cuts_of l = record {
  middle = left (size l) (column_count (size l)) / 2;
  width = left (size l) (column_count (size l));
  height = page_step * min (whole_tally l).longest most_drawn;
}

unfoldable pub label_count : Lists → ℕ
label_count l = (column_count (size l) - 1) / label_step (size l) + 1

unfoldable pub label_of : Lists → ℕ → Label
label_of l place = record {
  centre = centre (size l) (place * label_step (size l));
  bucket = first_bucket (size l) (place * label_step (size l));
}

-- the split pointer below the column of the bucket that splits next
unfoldable pub pointer_mark_of : Lists → Mark
pointer_mark_of l =
    let n : ℕ = pointer l.config.initial (size l) in
    record { centre = centre (size l) (n / group_size (size l)); pointer = n }

-- ---- the drawing

-- the items of the numbers below n, one after another
unfoldable pub in_turn : {A : Type 0} → (ℕ → List A) → ℕ → List A
in_turn items zero = []
in_turn items (suc n) = in_turn items n ++ items n

-- a bucket's pages from the floor up, and how many more there are
unfoldable pub chain_text : Lists → ℕ → List ℕ
chain_text l bucket =
    in_turn (λ p. bar_text (page_bar l bucket p))
    (min (chain_length l.config.capacity (list_at l.lists bucket)) most_drawn)
    ++ more_text (more_of l bucket)

unfoldable pub columns_text : Lists → List ℕ
columns_text l =
    if is_detailed (size l)
    then in_turn (chain_text l) (size l)
    else in_turn (λ column. bar_text (group_bar l column)) (column_count (size l))

-- what stands before the columns
unfoldable pub drawing_head_text : Lists → List ℕ
drawing_head_text l =
    canvas_text (canvas_of l)
    ++ title_text (title_of l)
    ++ legend_text (legend_of l)
    ++ caption_text (record { is_detailed = is_detailed (size l) })
    ++ plot_text (record { floor = floor_of (whole_tally l).longest })

-- what stands behind them: the cuts, the numbers of buckets, and the split pointer
unfoldable pub drawing_foot_text : Lists → List ℕ
drawing_foot_text l =
    cuts_text (cuts_of l)
    ++ in_turn (λ place. label_text (label_of l place)) (label_count l)
    ++ mark_text (pointer_mark_of l)

-- what `draw` writes
unfoldable pub drawing_of : Lists → List ℕ
drawing_of l = drawing_head_text l ++ columns_text l ++ drawing_foot_text l
