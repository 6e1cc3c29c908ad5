-- What a run leaves
use Rattle.std.specs.Prelude.{◌≡◌, ℕ, Bool, true, List, length}
use Rattle.lh_bucket.specs.Listing.{Lists, size}
use Rattle.lh_settling.specs.Contents.{ArePlaced}
use Rattle.lh_settling.specs.Settled.{map_in}
use Rattle.lh_words.specs.History.Log.{IsLegalLog, left_after}
use Rattle.lh_words.specs.declared.seat_view.Entry.{Entry}

-- One legal history of a plain map, of so many acts, leads from the records that a table had to those that it has:
-- these are just what it leaves, each in the bucket of its address.
pub record IsOneHistory (opening : Lists) (acts : ℕ) (closing : Lists) : Type 0 where
  pub log : List Entry
  pub legal : IsLegalLog (map_in opening) log
  pub count : length log ≡ acts
  pub config_is : closing.config ≡ opening.config
  pub holds : ArePlaced closing.config.initial (size closing) (left_after (map_in opening) log) closing.lists

-- Of a traced table, these records are what one legal history leaves.
abbrev pub IsLeftByAll : Bool → Lists → Lists → Type 0
IsLeftByAll traced opening listing = traced ≡ true → (acts : ℕ) × IsOneHistory opening acts listing
