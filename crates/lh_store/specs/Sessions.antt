-- What contracts see of a session
use denote.Ref.{Bor}
use Rattle.std.specs.Prelude.{◌≡◌, ℕ, zero, suc, ◌+◌, Bool, true, false, List, Option, [], slice_index_or}
use Rattle.lh_addr.specs.Settings.{default_settings}
use Rattle.lh_bucket.specs.PlainMap.{key_of}
use Rattle.lh_bucket.specs.declared.call.Call.{Call}
use Rattle.lh_bucket.specs.declared.call.Call.TheVariants.{Insert}
use Rattle.lh_bucket.specs.declared.call.Reply.{Reply}
use Rattle.lh_file.specs.Buckets.Brands.{no_table}
use Rattle.lh_file.specs.Calls.Atomic.{Reaction}
use Rattle.lh_file.specs.Calls.Lent.{put_reply}
use Rattle.lh_file.specs.Calls.Served.{HasServed}
use Rattle.lh_file.specs.Closing.{NoneOutside}
use Rattle.lh_file.specs.FileState.{FileState, IsOf}
use Rattle.lh_file.specs.History.Entered.{HasActedOn, HasEntered}
use Rattle.lh_file.specs.Words.HandState.{HandState}
use Rattle.lh_words.specs.History.Buckets.{bit}

-- its file, and its hand
pub record SessionState : Type 0 where
  pub file : FileState
  pub hand : HandState

-- The hand is one of the file, keeps no acts, and hasn't the right to split. Where the file is traced, none of the
-- hand's acts was made on another bucket. Where the file has a name, it is the file of that name.
pub record IsSession (traced is_named : Bool) (name file : FileState) (hand : HandState) : Type 0 where
  pub of : IsOf file hand
  pub right : hand.view.has_right ≡ false
  pub recording : hand.recording ≡ false
  pub acts : hand.acts ≡ []
  pub own : traced ≡ true → NoneOutside hand.entries
  pub named : is_named ≡ true → file ≡ name
  pub listed : file.config ≡ file.listing.config

-- The hand has made this call, with this reply. In a traced file the call is an act of the history.
pub record IsMade (traced : Bool) (old : HandState) (call : Call) (reply : Reply) (new : HandState) : Type 0 where
  pub served : HasServed old call reply new
  pub entered : traced ≡ true → HasEntered false old call reply new

-- The same, of a call that met this value under its key, or none: in a traced file the history has that there just
-- before the act.
pub record IsMet (traced : Bool) (old : HandState) (call : Call) (reply : Reply) (was : Option (List ℕ))
    (new : HandState) : Type 0 where
  pub served : HasServed old call reply new
  pub met : traced ≡ true → HasActedOn old call reply was new

-- A call by a key has read what is there and has written there in one act: `does` says what it did by what was there,
-- and `meets` that this act was made.
pub record IsAtOnce {T : Type 0} (key : List ℕ) (meets : Call → Reply → Option (List ℕ) → Type 0)
    (does : Reaction T) (t : T) : Type 0 where
  pub was : Option (List ℕ)
  pub call : Call
  pub reply : Reply
  pub by : key_of call ≡ key
  pub done : does key was t call reply
  pub made : meets call reply was

-- The record at a place of a list was put, after what was done `so_far`; it is counted where it is new.
pub record PutsNext {S : Type 0} (made : S → Call → Reply → S → Type 0) (records : List (Bor (List ℕ) × Bor (List ℕ)))
    (place : ℕ) (so_far : ℕ → S → Type 0) (added : ℕ) (new : S) : Type 0 where
  pub last : S
  pub before : ℕ
  pub first : so_far before last
  pub is_new : Bool
  pub put : (d : Bor (List ℕ) × Bor (List ℕ)) →
      made last (Insert (slice_index_or records place d).0.now (slice_index_or records place d).1.now)
      (put_reply is_new) new
  pub count : added ≡ before + bit is_new

-- So many records of a list were put, from the first on, one after the other, and so many of these were new.
abbrev pub HasPut : {S : Type 0} → (S → Call → Reply → S → Type 0) → List (Bor (List ℕ) × Bor (List ℕ)) → S → ℕ → ℕ →
    S → Type 0
HasPut made records old zero added new = (new ≡ old) × (added ≡ 0)
HasPut made records old (suc done) added new = PutsNext made records done (HasPut made records old done) added new

-- no file
abbrev pub no_state : FileState
no_state = record {
  table = no_table;
  shard = 0;
  config = default_settings;
  recording = false;
  opening = 0;
  listing = record { config = default_settings; lists = [] };
}
