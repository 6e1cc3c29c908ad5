-- Slots: a record in memory, the value right behind the key, in room that is given.
use Rattle.std.specs.Prelude.{◌≡◌, ℕ, ◌+◌, ◌*◌, ◌/◌, ◌<◌, ◌≤◌, List, length, take}
use Rattle.lh_page.specs.declared.pair.Pair.{Pair}
use Rattle.lh_page.specs.Limits.{longest_key, longest_value}
use Rattle.lh_page.specs.Records.{key_at, value_at}
use Rattle.lh_page.specs.Rows.{field}

-- room for the longest key and the longest value together
abbrev pub widest_room : ℕ
widest_room = longest_key + longest_value

-- a room that slots have
abbrev pub IsRoom : ℕ → Type 0
IsRoom room = room ≤ widest_room

-- a record has room in slots: the widest have room for each, and others for keys and values of so many bytes together
abbrev pub FitsRoom : ℕ → List ℕ → List ℕ → Type 0
FitsRoom room name text = room < widest_room → length name + length text ≤ room

-- so have all records of a list
abbrev pub FitAll : ℕ → List Pair → Type 0
FitAll room pairs = (i : ℕ) → i < length pairs → FitsRoom room (key_at pairs i) (value_at pairs i)

-- what holds of the parts of every slot: the lengths of a key and a value, and room for both
pub record IsSlot (room key_len value_len : ℕ) (bytes : List ℕ) : Type 0 where
  pub is_room : IsRoom room
  pub long : length bytes ≡ room
  pub some : 1 ≤ key_len
  pub key : key_len ≤ longest_key
  pub value : value_len ≤ longest_value
  pub within : key_len + value_len ≤ room

-- the record in a slot: the key is its first bytes, and the value is right behind it
abbrev pub record_of : ℕ → ℕ → List ℕ → Pair
record_of key_len value_len bytes = record { key = take key_len bytes; value = field bytes key_len value_len }

-- how many slots a list grows by
abbrev pub slot_step : ℕ
slot_step = 4

-- a number of records, rounded up to what a list grows by
abbrev pub whole_steps : ℕ → ℕ
whole_steps records = (records + 3) / slot_step * slot_step
