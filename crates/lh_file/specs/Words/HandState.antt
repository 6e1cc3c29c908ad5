-- What contracts see of a hand
use Rattle.std.specs.Prelude.{◌≡◌, ℕ, Bool, List, [], ◌∷◌, ◌++◌, fold}
use Rattle.atomic_table.specs.Seated.{TableId}
use Rattle.lh_settling.specs.declared.act.ActLine.{ActLine}
use Rattle.lh_words.specs.Views.{rooted, floored, branch, joined_views}
use Rattle.lh_words.specs.declared.seat_view.Entry.{Entry}
use Rattle.lh_words.specs.declared.view.View.{View}

-- the table that a hand belongs to, what the rule knows of it, whether its file records, what the rule knows of its
-- acts, the logs that it was told of, the acts that it keeps, and for how many more it has room
pub record HandState : Type 0 where
  pub table : TableId
  pub view : View
  pub recording : Bool
  pub entries : List Entry
  pub logs : List (List Entry)
  pub acts : List ActLine
  pub room : ℕ

-- the same hand, of which the rule knows this
abbrev pub seeing : HandState → View → HandState
seeing hand view = record hand { view = view }

-- the same hand, which has seen this many buckets
abbrev pub knowing : HandState → ℕ → HandState
knowing hand buckets = seeing hand (rooted hand.view buckets hand.view.has_right)

-- the same hand, with the right to split or without it
abbrev pub with_right : HandState → Bool → HandState
with_right hand has_right = seeing hand (rooted hand.view hand.view.known has_right)

-- the same hand, which was told of a log of this many acts
abbrev pub told_of : HandState → ℕ → List Entry → HandState
told_of hand floor log = record hand { view = floored hand.view floor; logs = hand.logs ++ log ∷ [] }

-- the same hand, with whatever room for acts
pub record IsSame (old new : HandState) : Type 0 where
  pub table : new.table ≡ old.table
  pub recording : new.recording ≡ old.recording
  pub view : new.view ≡ old.view
  pub entries : new.entries ≡ old.entries
  pub logs : new.logs ≡ old.logs
  pub acts : new.acts ≡ old.acts

-- a hand that got this many calls of another: it knows the root that the other knows,
-- has no right and no stamps, and has done nothing
pub record IsBranch (calls : ℕ) (old new : HandState) : Type 0 where
  pub table : new.table ≡ old.table
  pub recording : new.recording ≡ old.recording
  pub view : new.view ≡ branch calls old.view
  pub entries : new.entries ≡ []
  pub logs : new.logs ≡ []
  pub acts : new.acts ≡ []

-- two hands in one, with the first one's room
abbrev pub united : HandState → HandState → HandState
united first second = record first {
  view = joined_views first.view second.view;
  entries = first.entries ++ second.entries;
  logs = first.logs ++ second.logs;
  acts = first.acts ++ second.acts;
}

-- two hands in one, with whatever room for acts
abbrev pub IsJoined : HandState → HandState → HandState → Type 0
IsJoined first second new = IsSame (united first second) new

-- many hands in one, one after another joined into the first
abbrev pub AreJoined : HandState → List HandState → HandState → Type 0
AreJoined first others new = IsSame (fold united first others) new
