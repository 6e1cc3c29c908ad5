-- A file at one moment
use Rattle.std.specs.Prelude.{List}
use Rattle.lh_bucket.specs.Listing.{Lists}
use Rattle.lh_settling.specs.ClosedFile.{ClosedFile}
use Rattle.lh_settling.specs.Settled.{map_in, HoldsMap}
use Rattle.lh_words.specs.History.Log.{left_after}
use Rattle.lh_words.specs.History.Told.{IsTold}
use Rattle.lh_words.specs.declared.seat_view.Entry.{Entry}

-- A hand with these acts was told of the log, one of as many acts as the snapshot says, and the snapshot holds just
-- what the log leaves.
abbrev pub IsSnapshot : Lists → ClosedFile → List Entry → List (List Entry) → List Entry → Type 0
IsSnapshot opening snapshot entries logs log =
    IsTold opening snapshot.stamps entries logs log × HoldsMap snapshot (left_after (map_in opening) log)
