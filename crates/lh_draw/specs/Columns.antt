-- The columns of a drawing: how they lie, and what is counted of their buckets
use Rattle.std.specs.Prelude.{ℕ, ◌+◌, ◌-◌, ◌*◌, ◌/◌, min, max, Bool, nat_lt, nat_le, if◌then◌else◌, List, [], ◌∷◌}
use Rattle.std.specs.Prelude.{length, take, drop, sum_by}
use Rattle.lh_addr.specs.Growth.{level, level_of}
use Rattle.lh_page.specs.PackedList.{pages_needed}
use Rattle.lh_page.specs.declared.pair.Pair.{Pair}
use Rattle.lh_bucket.specs.Listing.{Lists, size, count_of}
use Rattle.lh_draw.specs.declared.tally.Tally.{Tally}

-- ---- how the columns lie, by the number of buckets

-- a column shows the pages of one bucket where there are 128 buckets or fewer
abbrev pub is_detailed : ℕ → Bool
is_detailed buckets = nat_le buckets 128

-- the number of buckets of a column: the least that gives 512 columns or fewer
abbrev pub group_size : ℕ → ℕ
group_size buckets = (buckets + 511) / 512

-- the number of columns, of which the last may have fewer buckets
unfoldable pub column_count : ℕ → ℕ
column_count buckets = (buckets + group_size buckets - 1) / group_size buckets

-- the first bucket of a column, and the one behind its last
abbrev pub first_bucket : ℕ → ℕ → ℕ
first_bucket buckets column = group_size buckets * column

abbrev pub end_bucket : ℕ → ℕ → ℕ
end_bucket buckets column = min (first_bucket buckets column + group_size buckets) buckets

-- how far it is from a column to the next one
abbrev pub pitch : ℕ → ℕ
pitch buckets = min (1024 / column_count buckets) 64

-- how broad a bar is: a quarter of the way is left free
abbrev pub bar_width : ℕ → ℕ
bar_width buckets = pitch buckets - pitch buckets / 4

-- where a column begins, and the middle of its bars
abbrev pub left : ℕ → ℕ → ℕ
left buckets column = pitch buckets * column

abbrev pub centre : ℕ → ℕ → ℕ
centre buckets column = left buckets column + bar_width buckets / 2

-- every this many columns have a label
abbrev pub label_step : ℕ → ℕ
label_step buckets = if nat_le (column_count buckets) 32 then 1 else if nat_le (column_count buckets) 128 then 8 else 64

-- ---- what is counted

-- the number of pages of a chain with some records
abbrev pub chain_length : ℕ → List Pair → ℕ
chain_length capacity pairs = pages_needed capacity (length pairs)

-- the greatest number of pages in one of some chains
unfoldable pub longest_of : ℕ → List (List Pair) → ℕ
longest_of capacity [] = 0
longest_of capacity (pairs ∷ lists) = max (chain_length capacity pairs) (longest_of capacity lists)

-- the records, the pages and the longest chain of some buckets
abbrev pub tally_of : ℕ → List (List Pair) → Tally
tally_of capacity lists = record {
  records = count_of lists;
  pages = sum_by (chain_length capacity) lists;
  longest = longest_of capacity lists;
}

-- the buckets from one up to another
abbrev pub lists_between : Lists → ℕ → ℕ → List (List Pair)
lists_between l first end = take (end - first) (drop first l.lists)

unfoldable pub whole_tally : Lists → Tally
whole_tally l = tally_of l.config.capacity (lists_between l 0 (size l))

-- whether a bucket's level is the one above the file's
abbrev pub is_next_level : Lists → ℕ → Bool
is_next_level l bucket = nat_lt (level l.config.initial (size l)) (level_of l.config.initial (size l) bucket)
