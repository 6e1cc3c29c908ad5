-- What a page's bytes show, and their faults.
use Rattle.std.specs.Prelude.{◌≡◌, ℕ, ◌<◌, ◌≤◌, Bool, true, false, not, ◌&&◌, ◌||◌, List, map, option_map, Option, Some}
use Rattle.std.specs.Prelude.{slice_index, nat_lt, ◌+◌, ◌-◌, ◌==◌, if◌then◌else◌}
use Rattle.std.specs.List.{find, list_all, range_with_len}
use Rattle.byteorder.specs.Endian.{little_number}
use Rattle.lh_page.specs.declared.fault.PageFault.{PageFault}
use Rattle.lh_page.specs.declared.fault.PageFault.TheVariants.{Kind, Used, Slot}
use Rattle.lh_page.specs.declared.format.Format.{Format}
use Rattle.lh_page.specs.declared.head.PageHead.{PageHead}
use Rattle.lh_page.specs.declared.page.Page.{Page}
use Rattle.lh_page.specs.declared.page.PageKind.TheVariants.{Primary, Overflow}
use Rattle.lh_page.specs.declared.pair.Pair.{Pair}
use Rattle.lh_page.specs.PageTable.{slot}
use Rattle.lh_page.specs.Rows.{field}

-- ---- the fields

abbrev pub kind_of : List ℕ → ℕ
kind_of bytes = slice_index bytes 0

abbrev pub used_of : List ℕ → ℕ
used_of bytes = slice_index bytes 1

abbrev pub level_of : List ℕ → ℕ
level_of bytes = slice_index bytes 2

unfoldable pub bucket_of : List ℕ → ℕ
bucket_of bytes = little_number 4 (field bytes 4 4)

unfoldable pub next_of : List ℕ → ℕ
next_of bytes = little_number 4 (field bytes 8 4)

-- whether every byte is zero
abbrev pub all_zero : List ℕ → Bool
all_zero bytes = list_all (λ b. b == 0) bytes

-- whether the reserved bytes are zero
unfoldable pub is_clear : List ℕ → Bool
is_clear bytes = all_zero (field bytes 3 1) && all_zero (field bytes 12 4)

-- the head that the bytes show
abbrev pub head_of : List ℕ → PageHead
head_of bytes = record {
  kind = kind_of bytes;
  used = used_of bytes;
  level = level_of bytes;
  clear = is_clear bytes;
  bucket = bucket_of bytes;
  next = next_of bytes;
}

abbrev pub key_length : List ℕ → ℕ
key_length s = slice_index s 0

abbrev pub value_length : List ℕ → ℕ
value_length s = slice_index s 1

-- the record in a slot
abbrev pub pair_of : Format → List ℕ → Pair
pair_of f s = record { key = field s 2 (key_length s); value = field s (2 + f.key) (value_length s) }

-- the records of a page, from as many slots as are used
unfoldable pub pairs_of : Format → List ℕ → List Pair
pairs_of f bytes = map (λ i. pair_of f (slot f bytes i)) (range_with_len 0 (used_of bytes))

-- the page that the bytes show
abbrev pub page_of : Format → List ℕ → Page
page_of f bytes = record {
  kind = if kind_of bytes == 1 then Primary else Overflow;
  level = level_of bytes;
  bucket = bucket_of bytes;
  next = next_of bytes;
  pairs = pairs_of f bytes;
}

-- ---- the faults

-- neither primary nor overflow, or a reserved byte that isn't zero
unfoldable pub has_bad_kind : List ℕ → Bool
has_bad_kind bytes = not (kind_of bytes == 1 || kind_of bytes == 2) || not (is_clear bytes)

-- a length for which a slot has no room, a key of none, or a byte behind the key or the value that isn't zero
unfoldable pub is_bad_record : Format → List ℕ → Bool
is_bad_record f s =
    key_length s == 0 || nat_lt f.key (key_length s) || nat_lt f.value (value_length s)
    || not (all_zero (field s (2 + key_length s) (f.key - key_length s)))
    || not (all_zero (field s (2 + f.key + value_length s) (f.value - value_length s)))

-- a used slot without a record, or a slot that isn't used and isn't all zeros
unfoldable pub is_bad_slot : Format → List ℕ → ℕ → Bool
is_bad_slot f bytes i =
    if nat_lt i (used_of bytes) then is_bad_record f (slot f bytes i) else not (all_zero (slot f bytes i))

-- the least bad slot
unfoldable pub bad_slot : Format → List ℕ → Option ℕ
bad_slot f bytes = find (is_bad_slot f bytes) (range_with_len 0 f.slots)

-- the first fault of a page with room for b records
unfoldable pub fault_of : Format → List ℕ → ℕ → Option PageFault
fault_of f bytes b =
    if has_bad_kind bytes then Some Kind
    else if nat_lt b (used_of bytes) then Some Used
    else option_map Slot (bad_slot f bytes)

-- the slots from one place up to another are all zeros
abbrev pub UnusedAreZero : Format → List ℕ → ℕ → ℕ → Type 0
UnusedAreZero f bytes from to = (i : ℕ) → from ≤ i → i < to → all_zero (slot f bytes i) ≡ true

-- the first slot from a place on that isn't all zeros
abbrev pub FirstFilled : Format → List ℕ → ℕ → ℕ → Type 0
FirstFilled f bytes from place =
    (from ≤ place) × (place < f.slots) × UnusedAreZero f bytes from place × (all_zero (slot f bytes place) ≡ false)
