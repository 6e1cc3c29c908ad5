-- An act of a hand in the history
use Rattle.std.specs.Prelude.{◌≡◌, ℕ, ◌≤◌, ◌++◌, List, [], ◌∷◌, Bool, false, Option}
use Rattle.lh_bucket.specs.declared.call.Call.{Call}
use Rattle.lh_bucket.specs.declared.call.Reply.{Reply}
use Rattle.lh_words.specs.History.Log.{entry}
use Rattle.lh_file.specs.Words.HandState.{HandState}

-- The hand entered one act in the log, outside or not, at the one stamp that it drew,
-- which is no less than what it was told before.
abbrev pub HasEntered : Bool → HandState → Call → Reply → HandState → Type 0
HasEntered outside old call reply new =
    (stamp : ℕ) × (old.view.floor ≤ stamp)
    × ((was : Option (List ℕ)) × (new.entries ≡ old.entries ++ entry outside stamp call reply was ∷ []))
    × (new.view.stamps ≡ old.view.stamps ++ stamp ∷ [])

-- The same of an act of the history, which met this value under its key, or none: just before it the history has that
-- there.
abbrev pub HasActedOn : HandState → Call → Reply → Option (List ℕ) → HandState → Type 0
HasActedOn old call reply was new =
    (stamp : ℕ) × (old.view.floor ≤ stamp) × (new.entries ≡ old.entries ++ entry false stamp call reply was ∷ [])
    × (new.view.stamps ≡ old.view.stamps ++ stamp ∷ [])
