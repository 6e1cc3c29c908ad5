-- What the calls of a running file answer, and leave of the hand that makes them
use Rattle.std.specs.Prelude.{◌≡◌, ℕ, ◌+◌, ◌-◌, ◌<◌, ◌≤◌, ◌↔◌, [], ◌∷◌, ◌++◌, All, Result, Err, IfOk, IfErr, OnErr}
use Rattle.lh_bucket.specs.Answer.{Answered}
use Rattle.lh_bucket.specs.declared.call.Call.{Call}
use Rattle.lh_bucket.specs.declared.call.Reply.{Reply}
use Rattle.lh_file.specs.FileState.{FileState, IsOf}
use Rattle.lh_file.specs.Words.HandState.{HandState}
use Rattle.lh_words.specs.Counting.{inserts_of, deletes_of}
use Rattle.lh_file.specs.Words.Recording.{kept_of}
use Rattle.lh_words.specs.Views.{rooted}
use Rattle.lh_file.specs.declared.fault.FileFault.{FileFault}
use Rattle.lh_file.specs.declared.fault.FileFault.TheVariants.{Spent, Memory, Defect}

-- The hand is as it was, but that it may have seen more buckets since: its right to split, its stamps, its counts, its
-- acts and what it may still draw are as before.
pub record KnowsMore (old new : HandState) : Type 0 where
  pub known : ℕ
  pub rises : old.view.known ≤ known
  pub view : new.view ≡ rooted old.view known old.view.has_right
  pub entries : new.entries ≡ old.entries
  pub logs : new.logs ≡ old.logs
  pub acts : new.acts ≡ old.acts
  pub table : new.table ≡ old.table
  pub recording : new.recording ≡ old.recording

-- The hand made one call, which was answered so: it drew exactly one stamp, greater than all that it had, and may
-- draw one less; its counts rose by the reply; and where the file records, it keeps the act. It may have seen more
-- buckets, and its right to split is as before.
pub record HasServed (old : HandState) (call : Call) (reply : Reply) (new : HandState) : Type 0 where
  pub stamp : ℕ
  pub known : ℕ
  pub newest : All (λ x. x < stamp) old.view.stamps
  pub enough : 1 ≤ old.view.left
  pub rises : old.view.known ≤ known
  pub view : new.view ≡ record (old.view) {
    known = known;
    stamps = old.view.stamps ++ stamp ∷ [];
    left = old.view.left - 1;
    inserted = old.view.inserted + inserts_of reply;
    deleted = old.view.deleted + deletes_of reply;
  }
  pub logs : new.logs ≡ old.logs
  pub acts : new.acts ≡ old.acts ++ kept_of old.recording (record { stamp = stamp; call = call; reply = reply })
  pub table : new.table ≡ old.table
  pub recording : new.recording ≡ old.recording

-- the fault is none for want of calls
abbrev pub IsNotSpent : FileFault → Type 0
IsNotSpent (Spent left) = ⊥
IsNotSpent Memory = Unit {0}
IsNotSpent (Defect wanted_bucket wanted_level found_bucket found_level) = Unit {0}

-- What every call promises: of the file, of its hand before, of the call that it makes, of its result, of the reply
-- that this stands for, and of its hand after
pub record Makes {T : Type 0} (file : FileState) (old : HandState) (call : Call) (result : Result T FileFault)
    (reply_in : T → Reply) (new : HandState) : Type 0 where
  -- The hand has made this very call, with this reply.
  pub served : IfOk result (λ t. HasServed old call (reply_in t) new)
  -- The hand is refused as spent exactly where it may make no call,
  pub spent : (result ≡ Err (Spent 0)) ↔ (old.view.left ≡ 0)
  -- and no other fault says so.
  pub not_spent : 1 ≤ old.view.left → IfErr result IsNotSpent
  -- After a fault the hand is as it was, but for what it knows of the root.
  pub err : OnErr result (KnowsMore old new)
  -- The hand stays one of this file.
  pub of : IsOf file new

-- What every call that gives an answer promises: of the file, of its hand before, of the call that was
-- asked for, of its result, and of its hand after
pub record Serves (file : FileState) (old : HandState) (asked : Call)
    (result : Result Answered FileFault) (new : HandState) : Type 0 where
  -- The answer is to this very call,
  pub call : IfOk result (λ a. a.call ≡ asked)
  -- which the hand has made, with the reply of the answer.
  pub served : IfOk result (λ a. HasServed old a.call a.reply new)
  -- The hand is refused as spent exactly where it may make no call,
  pub spent : (result ≡ Err (Spent 0)) ↔ (old.view.left ≡ 0)
  -- and no other fault says so.
  pub not_spent : 1 ≤ old.view.left → IfErr result IsNotSpent
  -- After a fault the hand is as it was, but for what it knows of the root.
  pub err : OnErr result (KnowsMore old new)
  -- The hand stays one of this file.
  pub of : IsOf file new
