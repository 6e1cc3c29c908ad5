-- What the threads of a run do of its script, and what they leave of their hands
use Rattle.std.specs.Prelude.{◌≡◌, ℕ, ◌-◌, ◌%◌, true, false, List, Result, All, Contains, IfErr, IfOk, length, sum_by}
use Rattle.std.specs.Int.{div_ceil}
use Rattle.lh_settling.specs.ClosedFile.{ClosedFile}
use Rattle.lh_file.specs.Calls.Served.{IsNotSpent}
use Rattle.lh_file.specs.FileState.{FileState}
use Rattle.lh_file.specs.History.Own.{IsOwn, share_of}
use Rattle.lh_file.specs.Snapshots.Moments.{IsSnapshot}
use Rattle.lh_file.specs.Words.HandState.{HandState}
use Rattle.lh_file.specs.declared.fault.FileFault.{FileFault}
use Rattle.lh_shards.specs.Hands.{AreOf}
use Rattle.lh_shards.specs.Own.{AllShare, AreOwn}
use Rattle.lh_words.specs.declared.seat_view.Entry.{Entry}

-- how many of the places `first`, `first + step`, and so on are below this number
abbrev pub places_from : ℕ → ℕ → ℕ → ℕ
places_from first step count = div_ceil (count - first) step

-- ---- a table and hands of it, whatever they are

-- what a thread that was to make these calls comes back with: hands of the table that have made all of them, or the
-- fault of a call, which is none for want of calls
abbrev pub IsWorked : {Table Hands : Type 0} → (Table → ℕ → ℕ → Hands → Type 0) → Table → ℕ →
    Result Hands FileFault → Type 0
IsWorked Have table calls worked = IfOk worked (Have table calls calls) × IfErr worked IsNotSpent

-- what was seen with the one part was seen with the other too
abbrev pub Remembers : {Hands Seen : Type 0} → (Hands → ℕ → Seen → Type 0) → Hands → Hands → Type 0
Remembers {Hands} {Seen} Saw old new = (snapshots : ℕ) (seen : Seen) → Saw old snapshots seen → Saw new snapshots seen

-- ---- a file and a hand of it

-- a hand that has so many calls in all, of a file that records, and has made so many of them and kept the act of each:
-- it is its file's own, and hasn't the right to split
pub record HasCalls (file : FileState) (calls made : ℕ) (hand : HandState) : Type 0 where
  pub own : IsOwn file hand
  pub right : hand.view.has_right ≡ false
  pub records : file.recording ≡ true
  pub share : share_of hand ≡ calls
  pub acts : length hand.acts ≡ made

-- what the one hand was told of, the other was told of too
abbrev pub KnowsOf : HandState → HandState → Type 0
KnowsOf old new = (log : List Entry) → Contains old.logs log → Contains new.logs log

-- a hand that looked on while others worked: it is its file's own still, made no call and forgot nothing
pub record HasLookedOn (file : FileState) (old new : HandState) : Type 0 where
  pub own : IsOwn file new
  pub right : new.view.has_right ≡ old.view.has_right
  pub acts : new.acts ≡ old.acts
  pub share : share_of new ≡ share_of old
  pub knows : KnowsOf old new

-- the hand, or one that was joined into it, took this snapshot of the file
pub record HasTakenOne (file : FileState) (hand : HandState) (snapshot : ClosedFile) : Type 0 where
  pub config : snapshot.config ≡ file.config
  pub whole : snapshot.root % 2 ≡ 0
  pub entries : List Entry
  pub logs : List (List Entry)
  pub log : List Entry
  pub is : IsSnapshot file.listing snapshot entries logs log
  pub told : Contains hand.logs log

-- it took as many
pub record HasTaken (file : FileState) (hand : HandState) (snapshots : ℕ) (taken : List ClosedFile) : Type 0 where
  pub count : length taken ≡ snapshots
  pub each : All (HasTakenOne file hand) taken

-- ---- shards and hands of them

-- how many acts all these hands keep
abbrev pub acts_of : List HandState → ℕ
acts_of hands = sum_by (λ hand. length hand.acts) hands

-- each of these files records
abbrev pub AreRecording : List FileState → Type 0
AreRecording files = All (λ file. file.recording ≡ true) files

-- hands that each have so many calls in all, of shards that record, and have made so many together and kept the act of
-- each: they are their files' own
pub record HaveCalls (files : List FileState) (calls made : ℕ) (hands : List HandState) : Type 0 where
  pub of : AreOf files hands
  pub own : AreOwn files hands
  pub records : AreRecording files
  pub share : AllShare calls hands
  pub acts : acts_of hands ≡ made
