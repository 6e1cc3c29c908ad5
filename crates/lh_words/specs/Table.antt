-- The rule of a file's table
use Rattle.std.specs.Prelude.{◌≡◌, ℕ, Bool, true, List, length, map}
use mathlib.Core.Option.{some}
use lib.ListN.{get_elem?}
use Rattle.atomic_table.specs.Table.{State}
use Rattle.lh_bucket.specs.Listing.{Lists}
use Rattle.lh_words.specs.History.History.{History}
use Rattle.lh_words.specs.Rule.{IsRule, words_of}
use Rattle.lh_words.specs.declared.offsets.TheConstants.{WIDTH}
use Rattle.lh_words.specs.declared.numbers.FileWords.{FileWords}
use Rattle.lh_words.specs.declared.seat_view.SeatView.{SeatView}
use Rattle.lh_words.specs.declared.view.View.{View}

-- what a seat knows, has and did as a hand
abbrev pub shown : SeatView → View
shown seat = seat.view

-- the rule holds of the table of a file that was opened from a listing: that of its words and hands,
-- and where the file is traced that of its history
pub record IsFileTable (traced : Bool) (opening : Lists) (table : State (Unit {0}) SeatView) : Type 0 where
  pub wide : length table.words ≡ WIDTH
  pub rule : IsRule opening.config.initial opening.config.max (words_of table.words) (map shown table.views)
  pub history : traced ≡ true → History opening (words_of table.words) table.views

-- the rule of a file that was opened from a listing holds of these last words and of some seats, of which this is one
pub record IsEnd (traced : Bool) (opening : Lists) (words : FileWords) (seat : SeatView) : Type 0 where
  pub seats : List SeatView
  pub id : ℕ
  pub here : get_elem? seats id ≡ some seat
  pub rule : IsRule opening.config.initial opening.config.max words (map shown seats)
  pub history : traced ≡ true → History opening words seats
