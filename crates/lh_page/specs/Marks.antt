-- The row of marks in the head of a chain.
use Rattle.std.specs.Prelude.{◌≡◌, ◌≢◌, ℕ, ◌<◌, List, length, slice_index}
use Rattle.lh_page.specs.declared.pair.Pair.{Pair}
use Rattle.lh_page.specs.Mark.{mark_of}
use Rattle.lh_page.specs.PackedList.{IsPackedList}
use Rattle.lh_page.specs.Records.{key_at}

-- how many records of a chain have marks: those of two pages of the largest size
abbrev pub marked_room : ℕ
marked_room = 48

-- each of the first records has its key's mark at its place
abbrev pub IsMarked : List ℕ → List Pair → Type 0
IsMarked marks pairs = (i : ℕ) → i < marked_room → i < length pairs → slice_index marks i ≡ mark_of (key_at pairs i)

-- the marks are as they were but for one place, which has its record's mark
pub record IsMarkedAt (old new : List ℕ) (pairs : List Pair) (place : ℕ) : Type 0 where
  pub marked : place < marked_room → place < length pairs → slice_index new place ≡ mark_of (key_at pairs place)
  pub room : length new ≡ length old
  pub others : (i : ℕ) → i ≢ place → slice_index new i ≡ slice_index old i

-- what holds of the parts of every chain
pub record IsChain (capacity : ℕ) (marks : List ℕ) (pairs : List Pair) : Type 0 where
  pub list : IsPackedList (record { capacity = capacity; pairs = pairs })
  pub room : length marks ≡ marked_room
  pub marked : IsMarked marks pairs
