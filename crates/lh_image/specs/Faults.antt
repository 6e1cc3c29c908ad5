-- The faults of an image: the condition of each, the table of them, and the fault that is answered
use Rattle.std.specs.Prelude.{ℕ, ◌+◌, ◌-◌, ◌*◌, Bool, false, not, ◌&&◌, ◌||◌, List, [], ◌∷◌, ◌++◌, length, map}
use Rattle.std.specs.Prelude.{option_map, Option, Some, None, nat_lt, nat_le, ◌==◌, if◌then◌else◌}
use Rattle.std.specs.List.{range_with_len, list_any, count_by, sum_by, find, before_first, flat_map}
use Rattle.std.specs.Option.{is_some}
use Rattle.std.specs.Str.{bytes_eq}
use Rattle.lh_addr.specs.Fnv.{code_of}
use Rattle.lh_addr.specs.Growth.{address, level_of}
use Rattle.lh_addr.specs.Limits.{most_initial, least_load, most_load, most_buckets}
use Rattle.lh_page.specs.declared.head.PageHead.{PageHead}
use Rattle.lh_page.specs.declared.pair.Pair.{Pair}
use Rattle.lh_page.specs.Records.{keys_of}
use Rattle.lh_image.specs.declared.fault.ImageFault.{ImageFault}
use Rattle.lh_image.specs.declared.fault.ImageFault.TheVariants.{Magic, HeaderField, Counts, Short, Trailing, Kind}
use Rattle.lh_image.specs.declared.fault.ImageFault.TheVariants.{BucketNumber, Level, Used, Next, Twice, Never, Slot}
use Rattle.lh_image.specs.declared.fault.ImageFault.TheVariants.{Misfit}
use Rattle.lh_image.specs.declared.header.Header.{Header}
use Rattle.lh_image.specs.Chains.{Links, chain, stands_in}
use Rattle.lh_image.specs.Layout.{most_pages, initial_offset, capacity_offset, load_offset, buckets_offset, max_offset}
use Rattle.lh_image.specs.Layout.{fields_end, header_of, ends_in_zeros, image_bytes, view_of}
use Rattle.lh_image.specs.Version.{begins, page_bytes, slots, version_of}
use Rattle.lh_image.specs.declared.version.Version.TheVariants.{One, Two}
use Rattle.lh_image.specs.View.{View, initial, buckets, page_count, record_count, numbers, used, bucket, links}
use Rattle.lh_image.specs.View.{chain_of}

-- ---- the file as a whole

-- the input begins neither with LHF1 nor with LHF2 (I1)
unfoldable pub no_magic : List ℕ → Bool
no_magic bytes = not (begins bytes One || begins bytes Two)

-- whether there are enough bytes for a header
abbrev pub has_header : List ℕ → Bool
has_header bytes = nat_le (page_bytes (version_of bytes)) (length bytes)

-- whether a number is below a range or above it
abbrev pub out_of : ℕ → ℕ → ℕ → Bool
out_of low high x = nat_lt x low || nat_lt high x

-- the greatest number of buckets is out of its range, or below the number of buckets
abbrev pub is_bad_max : Header → Bool
is_bad_max h = out_of h.config.initial most_buckets h.config.max || nat_lt h.config.max h.buckets

-- the field of the header at an offset is out of its range; the offset where the fields end stands for the bytes behind
-- them, and `zeros` says whether those are zeros
unfoldable pub is_bad_field : Header → Bool → ℕ → Bool
is_bad_field h zeros offset =
    if offset == initial_offset then out_of 1 most_initial h.config.initial
    else if offset == capacity_offset then out_of 1 (slots h.version) h.config.capacity
    else if offset == load_offset then out_of least_load most_load h.config.load
    else if offset == buckets_offset then out_of h.config.initial most_buckets h.buckets
    else if offset == max_offset then is_bad_max h
    else not zeros

-- the offset of the first field of the header at fault (I2)
unfoldable pub bad_field : Header → Bool → Option ℕ
bad_field h zeros =
    find (is_bad_field h zeros)
    (initial_offset ∷ capacity_offset ∷ load_offset ∷ buckets_offset ∷ max_offset ∷ fields_end ∷ [])

-- fewer pages than header and buckets, more pages than an image may have,
-- or more records than the pages have slots for (I3)
unfoldable pub bad_counts : Header → Bool
bad_counts h =
    nat_lt h.pages (1 + h.buckets) || nat_lt most_pages h.pages
    || nat_lt (h.config.capacity * (h.pages - 1)) h.records

-- fewer bytes than a header, or than the header's number of pages (I4)
unfoldable pub is_short : List ℕ → Bool
is_short bytes = nat_lt (length bytes) (page_bytes (version_of bytes)) || nat_lt (length bytes) (image_bytes bytes)

-- bytes behind the last page (I5)
unfoldable pub has_trailing : List ℕ → Bool
has_trailing bytes = nat_lt (image_bytes bytes) (length bytes)

-- ---- page p by itself, by its head

-- a primary page behind the buckets' pages or an overflow page among them, or a reserved byte that isn't zero (I6)
unfoldable pub bad_kind : Header → ℕ → PageHead → Bool
bad_kind h p head = not (head.kind == (if nat_le p h.buckets then 1 else 2)) || not head.clear

-- a primary page of another bucket than its own, or a bucket that the file hasn't (I7)
unfoldable pub bad_bucket : Header → ℕ → PageHead → Bool
bad_bucket h p head = (nat_le p h.buckets && not (head.bucket == p - 1)) || nat_le h.buckets head.bucket

-- another level than the local level of the page's bucket (I8)
unfoldable pub bad_level : Header → ℕ → PageHead → Bool
bad_level h p head = not (head.level == level_of h.config.initial h.buckets head.bucket)

-- more records than a page holds, a page with a next one that isn't full, or an overflow page without records (I9)
unfoldable pub bad_used : Header → ℕ → PageHead → Bool
bad_used h p head =
    nat_lt h.config.capacity head.used || (not (head.next == 0) && nat_lt head.used h.config.capacity)
    || (head.kind == 2 && head.used == 0)

-- a test of heads, at page p of an image
abbrev pub at_head : (Header → ℕ → PageHead → Bool) → View → ℕ → Bool
at_head test v p = test v.header p (v.head p)

-- another number of records in all pages than the header's (I9, at page 0)
unfoldable pub bad_total : View → Bool
bad_total v = not (sum_by (used v) (numbers (page_count v)) == record_count v)

-- the ninth fault at page p, where page 0 stands for the number of all records
abbrev pub bad_used_at : View → ℕ → Bool
bad_used_at v p = if p == 0 then bad_total v else at_head bad_used v p

-- ---- pages among each other

-- a next page that is no overflow page of the file, or one of another bucket (I10)
unfoldable pub bad_next : Links → ℕ → Bool
bad_next l p =
    not (l.next p == 0)
    && (nat_le (l.next p) l.heads || nat_le l.pages (l.next p) || not (l.bucket (l.next p) == l.bucket p))

-- how many of the first n pages name page p as their next one
unfoldable pub names : (ℕ → ℕ) → ℕ → ℕ → ℕ
names next n p = count_by (λ q. next q == p) (range_with_len 0 n)

-- the next page of two pages or more (I11)
abbrev pub named_twice : Links → ℕ → Bool
named_twice l p = nat_le 2 (names l.next l.pages p)

-- on the chain of no bucket (I12)
unfoldable pub on_no_chain : Links → ℕ → Bool
on_no_chain l p = not (list_any (λ i. stands_in (chain l.next l.pages i) p) (range_with_len 0 l.heads))

-- ---- slots and records

-- a used slot without a record, or an unused one that isn't all zeros (I13)
abbrev pub has_bad_slot : View → ℕ → Bool
has_bad_slot v p = is_some (v.bad_slot p)

-- of some records, which stand behind some keys, one isn't at home or has a key that stands before it
unfoldable pub misfits : (List ℕ → Bool) → List (List ℕ) → List Pair → Bool
misfits at_home before [] = false
misfits at_home before (r ∷ rs) =
    not (at_home r.key) || list_any (bytes_eq r.key) before || misfits at_home (before ++ r.key ∷ []) rs

-- whether a key's address is bucket i
abbrev pub is_at_home : View → ℕ → List ℕ → Bool
is_at_home v i key = address (initial v) (buckets v) (code_of key) == i

-- the keys that stand before page p in the chain of bucket i
abbrev pub keys_before : View → ℕ → ℕ → List (List ℕ)
keys_before v i p = keys_of (flat_map v.records (before_first (λ q. q == p) (chain_of v i)))

-- a record whose address is another bucket, or whose key stands before it in its chain (I14)
unfoldable pub has_misfit : View → ℕ → Bool
has_misfit v p = misfits (is_at_home v (bucket v p)) (keys_before v (bucket v p) p) (v.records p)

-- ---- the table of faults: a row gives its fault where the condition holds, at the first place where it does

-- a fault where a condition holds
abbrev pub where_so : Bool → ImageFault → Option ImageFault
where_so test fault = if test then Some fault else None

-- the least page but the header for which a condition holds
abbrev pub least : ℕ → (ℕ → Bool) → Option ℕ
least pages test = find test (numbers pages)

-- the faults of the header's fields: I2 and I3
abbrev pub field_rows : Header → Bool → List (Option ImageFault)
field_rows h zeros = option_map HeaderField (bad_field h zeros) ∷ where_so (bad_counts h) Counts ∷ []

-- what the first page shows: I1, and I2 and I3 where there is a header
abbrev pub header_rows : List ℕ → List (Option ImageFault)
header_rows bytes =
    where_so (no_magic bytes) Magic
    ∷ map (λ row. if has_header bytes then row else None) (field_rows (header_of bytes) (ends_in_zeros bytes))

-- what the number of bytes shows: I4 and I5
abbrev pub size_rows : List ℕ → List (Option ImageFault)
size_rows bytes = where_so (is_short bytes) Short ∷ where_so (has_trailing bytes) Trailing ∷ []

-- the faults of pages by their heads: I6 to I9
abbrev pub head_rows : View → List (Option ImageFault)
head_rows v =
    option_map Kind (least (page_count v) (at_head bad_kind v))
    ∷ option_map BucketNumber (least (page_count v) (at_head bad_bucket v))
    ∷ option_map Level (least (page_count v) (at_head bad_level v))
    ∷ option_map Used (find (bad_used_at v) (range_with_len 0 (page_count v)))
    ∷ []

-- the faults of pages that name one another: I10 to I12
abbrev pub link_rows : Links → List (Option ImageFault)
link_rows l =
    option_map Next (least l.pages (bad_next l))
    ∷ option_map Twice (least l.pages (named_twice l))
    ∷ option_map Never (least l.pages (on_no_chain l))
    ∷ []

-- the faults of slots and records: I13 and I14
abbrev pub record_rows : View → List (Option ImageFault)
record_rows v =
    option_map Slot (least (page_count v) (has_bad_slot v))
    ∷ option_map Misfit (least (page_count v) (has_misfit v))
    ∷ []

-- the first fault of some rows
unfoldable pub first_fault_of : List (Option ImageFault) → Option ImageFault
first_fault_of [] = None
first_fault_of (None ∷ rows) = first_fault_of rows
first_fault_of (Some fault ∷ rows) = Some fault

-- the rows of the faults of pages, which a View shows whatever the format of its bytes
abbrev pub page_rows : View → List (Option ImageFault)
page_rows v = head_rows v ++ link_rows (links v) ++ record_rows v

-- the first fault of the pages, or none
unfoldable pub page_fault : View → Option ImageFault
page_fault v = first_fault_of (page_rows v)

-- the fault that is answered, or none: the first of the table
unfoldable pub image_fault : List ℕ → Option ImageFault
image_fault bytes = first_fault_of (header_rows bytes ++ size_rows bytes ++ page_rows (view_of bytes))
