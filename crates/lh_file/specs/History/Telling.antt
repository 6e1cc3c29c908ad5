-- What a hand is told of its file's history
use Rattle.std.specs.Prelude.{◌≡◌, ℕ, ◌≤◌, Bool, true, List}
use Rattle.lh_file.specs.FileState.{FileState}
use Rattle.lh_file.specs.Words.HandState.{HandState, told_of}
use Rattle.lh_words.specs.History.Told.{IsTold}
use Rattle.lh_words.specs.declared.seat_view.Entry.{Entry}

-- The hand was told of this many acts of its file, no fewer than before. Of a traced file they are one legal history,
-- in which the hand's own acts stand, and which goes on from all that the hand was told of.
pub record HasTold (traced : Bool) (file : FileState) (before : HandState) (count : ℕ) (after : HandState)
    : Type 0 where
  pub log : List Entry
  pub rises : before.view.floor ≤ count
  pub after_is : after ≡ told_of before count log
  pub is_told : traced ≡ true → IsTold file.listing count before.entries before.logs log
