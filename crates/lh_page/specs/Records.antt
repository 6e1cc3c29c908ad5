-- Lists of records, seen by their keys.
use Rattle.std.specs.Prelude.{◌≡◌, ◌≢◌, ℕ, ◌<◌, ◌≤◌, List, [], map, length, slice_index_or, slice_set, Option}
use Rattle.std.specs.List.{All, position}
use Rattle.std.specs.Str.{bytes_eq}
use Rattle.lh_page.specs.declared.pair.Pair.{Pair}
use Rattle.lh_page.specs.Limits.{IsKey, IsValue, largest_page}

-- the keys of some records, in their order
abbrev pub keys_of : List Pair → List (List ℕ)
keys_of pairs = map (λ p. p.key) pairs

-- the place of the first record with a key
unfoldable pub place_of : List Pair → List ℕ → Option ℕ
place_of pairs key = position (λ p. bytes_eq p.key key) pairs

-- what stands past the end of a list of records: no record has an empty key
abbrev pub no_pair : Pair
no_pair = record { key = []; value = [] }

-- the key of the record at a place
abbrev pub key_at : List Pair → ℕ → List ℕ
key_at pairs place = (slice_index_or pairs place no_pair).key

-- the value of the record at a place
abbrev pub value_at : List Pair → ℕ → List ℕ
value_at pairs place = (slice_index_or pairs place no_pair).value

-- the records with another value in the one at a place
abbrev pub with_value : List Pair → ℕ → List ℕ → List Pair
with_value pairs place value = slice_set pairs place (record { key = key_at pairs place; value = value })

-- no record before place n has the key
abbrev pub AbsentBelow : List Pair → ℕ → List ℕ → Type 0
AbsentBelow pairs n key = (k : ℕ) → k < n → k < length pairs → key_at pairs k ≢ key

-- the first record with the key stands at a place
abbrev pub StandsFirst : List Pair → ℕ → List ℕ → Type 0
StandsFirst pairs place key = (place < length pairs) × AbsentBelow pairs place key × (key_at pairs place ≡ key)

-- a record whose key and value have lengths that keys and values have
pub record IsRecord (pair : Pair) : Type 0 where
  pub key : IsKey pair.key
  pub value : IsValue pair.value

-- a row of records that a page may have
pub record FitsPage (pairs : List Pair) : Type 0 where
  pub few : length pairs ≤ largest_page
  pub records : All IsRecord pairs
