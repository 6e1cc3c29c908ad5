-- What the pages of an image have room for: this many slots, and in each this many bytes of a key and of a value.
use Rattle.std.specs.Prelude.{ℕ, ◌+◌, ◌*◌, ◌≤◌, List, length}
use Rattle.std.specs.List.{All}
use Rattle.lh_page.specs.declared.format.Format.{Format}
use Rattle.lh_page.specs.declared.pair.Pair.{Pair}
use Rattle.lh_page.specs.Limits.{longest_key, longest_value, largest_page}

-- version 1 of the image
abbrev pub version_1 : Format
version_1 = record { slots = 14; key = 30; value = 40 }

-- version 2 of the image
abbrev pub version_2 : Format
version_2 = record { slots = 24; key = 56; value = 112 }

-- a slot is the lengths of its record's key and value, a byte each, then their bytes
abbrev pub slot_size : Format → ℕ
slot_size f = 2 + f.key + f.value

-- slot i begins behind the 16 bytes of the head and the slots before it
abbrev pub slot_start : Format → ℕ → ℕ
slot_start f i = 16 + i * slot_size f

-- a page is its head and its slots
abbrev pub page_size : Format → ℕ
page_size f = 16 + f.slots * slot_size f

-- a record for which a slot has room
pub record FitsSlot (f : Format) (pair : Pair) : Type 0 where
  pub some : 1 ≤ length pair.key
  pub key : length pair.key ≤ f.key
  pub value : length pair.value ≤ f.value

-- a row of records for which a page has slots
pub record FitsFormat (f : Format) (pairs : List Pair) : Type 0 where
  pub few : length pairs ≤ f.slots
  pub records : All (FitsSlot f) pairs

-- what fits the pages is within what keys, values and pages may be
pub record IsWithinLimits (f : Format) : Type 0 where
  pub slots : f.slots ≤ largest_page
  pub key : f.key ≤ longest_key
  pub value : f.value ≤ longest_value
