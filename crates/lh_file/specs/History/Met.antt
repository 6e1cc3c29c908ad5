-- What acts meet, and what the updates of a key come to
use Rattle.std.specs.Prelude.{
  ◌≡◌,
  ◌⊎◌,
  ◌&&◌,
  ◌+◌,
  ◌^◌,
  ℕ,
  zero,
  suc,
  Bool,
  true,
  false,
  List,
  [],
  ◌∷◌,
  Option,
  Some,
  None,
}
use Rattle.std.specs.Prelude.{length, take}
use Rattle.std.specs.Prelude.{if◌then◌else◌}
use Rattle.std.specs.FinMap.{get}
use Rattle.std.specs.Str.{bytes_eq}
use mathlib.Core.Option.{some}
use lib.ListN.{get_elem?}
use Rattle.lh_bucket.specs.Listing.{Lists}
use Rattle.lh_bucket.specs.PlainMap.{Records, key_of, IsSearch}
use Rattle.lh_bucket.specs.declared.call.Call.{Call}
use Rattle.lh_bucket.specs.declared.call.Call.TheVariants.{Search, Insert, Delete, Replace}
use Rattle.lh_bucket.specs.declared.call.Reply.{Reply}
use Rattle.lh_settling.specs.ClosedFile.{ClosedFile}
use Rattle.lh_settling.specs.Settled.{map_in, HoldsMap}
use Rattle.lh_settling.specs.declared.act.ActLine.{ActLine}
use Rattle.lh_file.specs.Closing.{NoneOutside, HasHistory}
use Rattle.lh_file.specs.History.Entered.{HasEntered, HasActedOn}
use Rattle.lh_file.specs.Words.HandState.{HandState}
use Rattle.lh_words.specs.History.Log.{left_after, IsLegalLog}
use Rattle.lh_words.specs.History.Told.{IsTold}
use Rattle.lh_words.specs.Rule.{Each}
use Rattle.lh_words.specs.declared.seat_view.Entry.{Entry}

-- A hand is told of a log. What an act of the hand met under its key, or nothing, is what the acts before it in the log
-- leave there.
abbrev pub MetLaw : Type 0
MetLaw =
    (opening : Lists) (count place : ℕ) (entries : List Entry) (logs : List (List Entry)) (log : List Entry)
    (done : Entry) → IsTold opening count entries logs log → get_elem? entries place ≡ some done →
    done.outside ≡ false →
    done.was ≡ get (left_after (map_in opening) (take done.line.stamp log)) (key_of done.line.call)

-- An act that met something is an act in the log.
abbrev pub EnteredLaw : Type 0
EnteredLaw =
    (old new : HandState) (call : Call) (given : Reply) (was : Option (List ℕ)) → HasActedOn old call given was new →
    HasEntered false old call given new

-- the act puts under its key what `makes` makes of the value that it met there
abbrev pub IsUpdateBy : (List ℕ → List ℕ) → Entry → Type 0
IsUpdateBy makes e =
    (was : List ℕ) × (e.was ≡ Some was) × (e.line.call ≡ Replace (key_of e.line.call) (makes was))

-- each of these acts that is on the key is such an update, adds the key with this first value, or searches for it
abbrev pub OnlyUpdate : (List ℕ → List ℕ) → List ℕ → List ℕ → List Entry → Type 0
OnlyUpdate makes first key entries =
    Each entries (λ e.
    key_of e.line.call ≡ key → IsUpdateBy makes e ⊎ ((e.line.call ≡ Insert key first) ⊎ IsSearch e.line.call))

-- whether a call is a replace
abbrev pub is_replace : Call → Bool
is_replace (Search key) = false
is_replace (Insert key value) = false
is_replace (Delete key) = false
is_replace (Replace key value) = true

-- how many of these acts replace what is under the key
abbrev pub updates_of : List ℕ → List Entry → ℕ
updates_of key [] = 0
updates_of key (e ∷ entries) =
    if bytes_eq (key_of e.line.call) key && is_replace e.line.call then suc (updates_of key entries)
    else updates_of key entries

-- what so many updates make of a value, one after another
abbrev pub made_by : (List ℕ → List ℕ) → ℕ → List ℕ → List ℕ
made_by makes zero value = value
made_by makes (suc updates) value = makes (made_by makes updates value)

-- what is under a key after so many updates: what they make of the first value, or nothing yet
abbrev pub IsMadeBy : (List ℕ → List ℕ) → List ℕ → ℕ → Option (List ℕ) → Type 0
IsMadeBy makes first updates (Some value) = value ≡ made_by makes updates first
IsMadeBy makes first updates None = updates ≡ 0

-- No update is lost: where the acts of a history only update a key by `makes`, the history leaves what so many updates
-- make of the key's first value, one after another.
abbrev pub UpdatesLaw : Type 0
UpdatesLaw =
    (makes : List ℕ → List ℕ) (first key : List ℕ) (before : ℕ) (log : List Entry) (m : Records) → IsLegalLog m log →
    NoneOutside log → OnlyUpdate makes first key log → IsMadeBy makes first before (get m key) →
    IsMadeBy makes first (before + updates_of key log) (get (left_after m log) key)

-- A traced file was closed whole with all calls home. Where the acts of its hands only updated a key that wasn't
-- there at
-- the opening, the closed file has what so many updates make of the key's first value.
abbrev pub CounterLaw : Type 0
CounterLaw =
    (opening : Lists) (closed : ClosedFile) (acts : List ActLine) (hand : HandState) (makes : List ℕ → List ℕ)
    (first key : List ℕ) → (history : HasHistory opening closed acts hand) →
    hand.view.left + length hand.acts ≡ 2 ^ 63 → NoneOutside hand.entries →
    OnlyUpdate makes first key hand.entries → get (map_in opening) key ≡ None →
    IsMadeBy makes first (updates_of key history.0) (get (left_after (map_in opening) history.0) key)
    × HoldsMap closed (left_after (map_in opening) history.0)
