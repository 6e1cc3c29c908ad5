-- A log of acts, of which those outside the history change nothing
use Rattle.std.specs.Prelude.{◌≡◌, ℕ, Bool, false, List, [], ◌∷◌, ◌++◌, Option, map, if◌then◌else◌}
use Rattle.std.specs.FinMap.{get}
use mathlib.Core.Option.{some}
use lib.ListN.{get_elem?}
use Rattle.lh_bucket.specs.PlainMap.{Records, reply, after, key_of}
use Rattle.lh_bucket.specs.declared.call.Call.{Call}
use Rattle.lh_bucket.specs.declared.call.Reply.{Reply}
use Rattle.lh_settling.specs.declared.act.ActLine.{ActLine}
use Rattle.lh_words.specs.declared.seat_view.Entry.{Entry}

-- an act of this call with this reply, outside or not, at this stamp, that met this value under its key, or none
abbrev pub entry : Bool → ℕ → Call → Reply → Option (List ℕ) → Entry
entry outside stamp call given was =
    record { line = record { stamp = stamp; call = call; reply = given }; outside = outside; was = was }

-- the lines of some acts
abbrev pub lines_of : List Entry → List ActLine
lines_of entries = map (λ e. e.line) entries

-- their stamps
abbrev pub stamps_in : List Entry → List ℕ
stamps_in entries = map (λ e. e.line.stamp) entries

-- the map that an act leaves
abbrev pub passed : Records → Entry → Records
passed m e = if e.outside then m else after m e.line.call

-- the map that a log leaves
abbrev pub left_after : Records → List Entry → Records
left_after m [] = m
left_after m (e ∷ log) = left_after (passed m e) log

-- the act was answered as the map answers, and met what the map has under its key
abbrev pub IsLegalAct : Records → Entry → Type 0
IsLegalAct m e = (e.line.reply ≡ reply m e.line.call) × (e.was ≡ get m (key_of e.line.call))

-- each act that isn't outside was answered as the map answers there, and met what the map has there under its key
abbrev pub IsLegalLog : Records → List Entry → Type 0
IsLegalLog m [] = Unit {0}
IsLegalLog m (e ∷ log) = (e.outside ≡ false → IsLegalAct m e) × IsLegalLog (passed m e) log

-- the act stands in the log at its stamp
abbrev pub StandsIn : List Entry → Entry → Type 0
StandsIn log e = get_elem? log e.line.stamp ≡ some e

-- these acts are the log's first ones
abbrev pub Begins : List Entry → List Entry → Type 0
Begins log start = (rest : List Entry) × (start ++ rest ≡ log)
