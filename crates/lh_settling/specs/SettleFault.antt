-- When a closed file is not settled, and why
use Rattle.std.specs.Prelude.{◌≡◌, ℕ, ◌%◌, List, Some, slice_get}
use Rattle.std.specs.List.{range_with_len}
use Rattle.lh_bucket.specs.declared.call.Reply.{Reply as ReplyOf}
use Rattle.lh_bucket.specs.Listing.{Lists}
use Rattle.lh_bucket.specs.PlainMap.{replies}
use Rattle.lh_settling.specs.declared.act.ActLine.{ActLine}
use Rattle.lh_settling.specs.declared.settle_fault.SettleFault.{SettleFault}
use Rattle.lh_settling.specs.declared.settle_fault.SettleFault.TheVariants.{SplitUnderWay, MissingStamp, Reply, Content}
use Rattle.lh_settling.specs.declared.settle_fault.SettleFault.TheVariants.{Placed, Memory}
use Rattle.lh_settling.specs.Acts.{stamps_of, calls_of, replies_of, IsInOrder, FirstDiffer}
use Rattle.lh_addr.specs.RootWord.{buckets_of}
use Rattle.lh_settling.specs.ClosedFile.{ClosedFile}
use Rattle.lh_settling.specs.Contents.{StandsAs, IsFirstStray, IsFirstAway}
use Rattle.lh_settling.specs.Settled.{map_in, left_by, IsStamped, IsLegal}

-- no split is under way, and the sorted stamps and the numbers below the stamp word differ first at a place
pub record IsMissing (closed : ClosedFile) (acts : List ActLine) (stamp : ℕ) : Type 0 where
  pub whole : closed.root % 2 ≡ 0
  pub history : List ActLine
  pub order : IsInOrder acts history
  pub differ : FirstDiffer (stamps_of history) (range_with_len 0 closed.stamps) stamp

-- the first call of a history whose reply is not the map's: the reply that it was given, and the one that it was due
pub record IsFirstWrong (opening : Lists) (history : List ActLine) (stamp : ℕ) (given due : ReplyOf) : Type 0 where
  pub differ : FirstDiffer (replies_of history) (replies (map_in opening) (calls_of history)) stamp
  pub was : slice_get (replies_of history) stamp ≡ Some given
  pub was_due : slice_get (replies (map_in opening) (calls_of history)) stamp ≡ Some due

-- When each fault is answered: the first, in their order, whose condition holds. Out of memory may come at any point.
abbrev pub IsDue : Lists → ClosedFile → List ActLine → SettleFault → Type 0
IsDue opening closed acts SplitUnderWay = closed.root % 2 ≡ 1
IsDue opening closed acts (MissingStamp stamp) = IsMissing closed acts stamp
IsDue opening closed acts (Reply stamp given due) =
    (history : List ActLine) × IsStamped closed acts history × IsFirstWrong opening history stamp given due
IsDue opening closed acts (Content key) =
    (history : List ActLine) × IsStamped closed acts history × IsLegal opening history
    × IsFirstStray (left_by opening history) closed.lists key
IsDue opening closed acts (Placed bucket key) =
    (history : List ActLine) × IsStamped closed acts history × IsLegal opening history
    × ((other : List ℕ) → StandsAs (left_by opening history) closed.lists other)
    × IsFirstAway closed.config.initial (buckets_of closed.root) closed.lists bucket key
IsDue opening closed acts Memory = Unit {0}

-- when the replaying of a history fails: at its first wrong reply, or out of memory
abbrev pub IsReplayFault : Lists → List ActLine → SettleFault → Type 0
IsReplayFault opening history (Reply stamp given due) = IsFirstWrong opening history stamp given due
IsReplayFault opening history Memory = Unit {0}
IsReplayFault opening history _ = ⊥
