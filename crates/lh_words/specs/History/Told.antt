-- What a seat is told of the history
use Rattle.std.specs.Prelude.{◌≡◌, ℕ, List, length}
use Rattle.lh_bucket.specs.Bucket.{Seen}
use Rattle.lh_bucket.specs.Listing.{Lists}
use Rattle.lh_settling.specs.Settled.{map_in}
use Rattle.lh_words.specs.History.Buckets.{Mirrors}
use Rattle.lh_words.specs.History.Log.{left_after, IsLegalLog, StandsIn, Begins}
use Rattle.lh_words.specs.Rule.{Each}
use Rattle.lh_words.specs.declared.seat_view.Entry.{Entry}

-- The log is one of this many acts, legal from the opening's map on; these acts stand in it at their stamps; and these
-- logs, of which the hand was told before, are its beginnings.
abbrev pub IsTold : Lists → ℕ → List Entry → List (List Entry) → List Entry → Type 0
IsTold opening count entries logs log =
    (length log ≡ count) × IsLegalLog (map_in opening) log × Each entries (StandsIn log) × Each logs (Begins log)

-- The same, and each of these buckets holds just what the log leaves of its keys.
abbrev pub IsSurveyed : Lists → ℕ → List Entry → List (List Entry) → List Seen → List Entry → Type 0
IsSurveyed opening count entries logs buckets log =
    IsTold opening count entries logs log × Each buckets (Mirrors (left_after (map_in opening) log))
