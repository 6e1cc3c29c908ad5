-- What an act leaves in the hand that made it
use Rattle.std.specs.Prelude.{◌≡◌, ℕ, ◌+◌, ◌-◌, ◌<◌, Bool, true, false, List, [], ◌∷◌, ◌++◌, length, All}
use Rattle.lh_bucket.specs.declared.call.Call.{Call}
use Rattle.lh_bucket.specs.declared.call.Reply.{Reply}
use Rattle.lh_settling.specs.declared.act.ActLine.{ActLine}
use Rattle.lh_words.specs.Counting.{inserts_of, deletes_of}
use Rattle.lh_file.specs.Words.HandState.{HandState}

-- what is kept of an act: its line where the file records, else nothing
abbrev pub kept_of : Bool → ActLine → List ActLine
kept_of true line = line ∷ []
kept_of false line = []

-- The hand drew exactly one stamp, greater than all that it had, and may draw one less; its counts rose by the reply;
-- and where the file records, it keeps the line. Its right to split and what it knows of the root are as before.
pub record IsAct (old : HandState) (stamp : ℕ) (call : Call) (reply : Reply) (new : HandState) : Type 0 where
  pub newest : All (λ x. x < stamp) old.view.stamps
  pub view : new.view ≡ record (old.view) {
    stamps = old.view.stamps ++ stamp ∷ [];
    left = old.view.left - 1;
    inserted = old.view.inserted + inserts_of reply;
    deleted = old.view.deleted + deletes_of reply;
  }
  pub logs : new.logs ≡ old.logs
  pub acts : new.acts ≡ old.acts ++ kept_of old.recording (record { stamp = stamp; call = call; reply = reply })
  pub room : new.room + length (kept_of old.recording (record { stamp = stamp; call = call; reply = reply })) ≡ old.room
  pub table : new.table ≡ old.table
  pub recording : new.recording ≡ old.recording

-- the hand made an act, with some stamp
abbrev pub Acted : HandState → Call → Reply → HandState → Type 0
Acted old call reply new = (stamp : ℕ) × IsAct old stamp call reply new
