-- What a counter of words counts
use Rattle.std.specs.Prelude.{◌≡◌, ◌==◌, ◌+◌, ◌%◌, ◌^◌, ℕ, false, List, length, Option, Some, None, if◌then◌else◌}
use Rattle.std.specs.FinMap.{get}
use Rattle.std.specs.Int.{w32, from_be_bytes, to_be_bytes}
use Rattle.lh_bucket.specs.Listing.{Lists}
use Rattle.lh_settling.specs.ClosedFile.{ClosedFile}
use Rattle.lh_settling.specs.Settled.{map_in, HoldsMap}
use Rattle.lh_file.specs.FileState.{FileState}
use Rattle.lh_file.specs.History.Met.{updates_of}
use Rattle.lh_file.specs.History.Updating.{IsUpdating}
use Rattle.lh_file.specs.Words.HandState.{HandState}
use Rattle.lh_words.specs.History.Log.{left_after, IsLegalLog}
use Rattle.lh_words.specs.declared.seat_view.Entry.{Entry}

-- the number that a value is: none but four bytes are one
abbrev pub number_of_value : List ℕ → ℕ
number_of_value bytes = if length bytes == 4 then from_be_bytes w32 bytes else 0

-- the value of the next number, of 32 bits
abbrev pub one_more : List ℕ → List ℕ
one_more bytes = to_be_bytes w32 ((number_of_value bytes + 1) % 2 ^ 32)

-- A hand that only counts: each of its acts adds a word with the number 1, or gives it the next number.
abbrev pub IsCounter : FileState → HandState → Type 0
IsCounter = IsUpdating one_more (to_be_bytes w32 1)

-- A hand that has done its part: it may be joined.
pub record IsFinished (file : FileState) (hand : HandState) : Type 0 where
  pub counter : IsCounter file hand
  pub right : hand.view.has_right ≡ false

-- what is under a word that was counted so often after the first time
abbrev pub IsCountOf : ℕ → Option (List ℕ) → Type 0
IsCountOf more (Some value) = value ≡ to_be_bytes w32 ((1 + more) % 2 ^ 32)
IsCountOf more None = more ≡ 0

-- The closed file holds what one legal history leaves, and that has under each word that wasn't there at the opening
-- how
-- often the word was counted.
pub record HasCounted (opening : Lists) (closed : ClosedFile) : Type 0 where
  pub log : List Entry
  pub legal : IsLegalLog (map_in opening) log
  pub holds : HoldsMap closed (left_after (map_in opening) log)
  pub counts : (word : List ℕ) → get (map_in opening) word ≡ None →
      IsCountOf (updates_of word log) (get (left_after (map_in opening) log) word)
