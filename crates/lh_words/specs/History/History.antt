-- The rule of a traced file's history
use Rattle.std.specs.Prelude.{◌≡◌, ℕ, ◌+◌, ◌≤◌, List, length}
use Rattle.lh_addr.specs.RootWord.{buckets_of}
use Rattle.lh_bucket.specs.Listing.{Lists}
use Rattle.lh_settling.specs.Settled.{map_in}
use Rattle.lh_words.specs.History.Buckets.{bit, owners_in, Mirrors, IsPlacedIn}
use Rattle.lh_words.specs.History.Log.{left_after, IsLegalLog, stamps_in, StandsIn, Begins}
use Rattle.lh_words.specs.Rule.{Each, rights_of}
use Rattle.lh_words.specs.Sums.{total}
use Rattle.lh_words.specs.declared.numbers.FileWords.{FileWords}
use Rattle.lh_words.specs.declared.seat_view.Entry.{Entry}
use Rattle.lh_words.specs.declared.seat_view.SeatView.{SeatView}

-- to how many buckets of a seat a code belongs
abbrev pub owners : ℕ → SeatView → ℕ
owners code seat = owners_in code seat.parts

-- how many splits the seat has moved whose pointer hasn't moved yet: one or none
abbrev pub moves_in : SeatView → ℕ
moves_in seat = bit seat.moved

-- The history of a file that was opened from a listing
pub record History (opening : Lists) (words : FileWords) (seats : List SeatView) : Type 0 where
  -- There is a log of all acts,
  pub log : List Entry
  -- which is as long as the stamp word says
  pub size_is : length log ≡ words.stamps
  -- and legal, from the listing's map on
  pub legal : IsLegalLog (map_in opening) log
  -- The stamps of each seat are those of its acts,
  pub stamped : Each seats (λ seat. seat.view.stamps ≡ stamps_in seat.entries)
  -- each of which stands in the log at its stamp
  pub stand : Each seats (λ seat. Each seat.entries (StandsIn log))
  -- The logs that a seat was told of are its beginnings
  pub logs : Each seats (λ seat. Each seat.logs (Begins log))
  -- Each bucket holds just what the log leaves of its keys
  pub mirror : Each seats (λ seat. Each seat.parts (Mirrors (left_after (map_in opening) log)))
  -- Each code belongs to exactly one bucket of all
  pub one : (code : ℕ) → total (owners code) seats ≡ 1
  -- Each bucket has its number and level in a file of the root's size, or of one
  -- bucket more between a split's move and its pointer
  pub placed : Each seats (λ seat. Each seat.parts
      (IsPlacedIn opening.config.initial (buckets_of words.root + total moves_in seats)))
  -- Who has moved a split has the right to split
  pub movers : Each seats (λ seat. moves_in seat ≤ rights_of seat.view)
