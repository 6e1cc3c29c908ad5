-- Snapshots and scans of single shards
use Rattle.std.specs.Prelude.{◌≡◌, ℕ, ◌<◌, ◌≤◌, Bool, true, List, Result, Some, length, slice_get, IfOk, IfErr}
use Rattle.lh_addr.specs.RootWord.{buckets_of}
use Rattle.lh_settling.specs.ClosedFile.{ClosedFile, IsWhole}
use Rattle.lh_file.specs.Calls.Served.{IsNotSpent}
use Rattle.lh_file.specs.FileState.{FileState}
use Rattle.lh_file.specs.Snapshots.Hands.{HasSurveyed}
use Rattle.lh_file.specs.Snapshots.Moments.{IsSnapshot}
use Rattle.lh_file.specs.Snapshots.Scans.{Scanning}
use Rattle.lh_file.specs.Words.HandState.{HandState, knowing, told_of}
use Rattle.lh_file.specs.declared.fault.FileFault.{FileFault}
use Rattle.lh_words.specs.declared.seat_view.Entry.{Entry}

-- The file at one moment, no earlier than what the hand was told of, with no fewer buckets than the hand has seen. Of a
-- traced file it holds just what a log of as many acts leaves, which the hand was told of.
pub record IsTaken (traced : Bool) (file : FileState) (before : HandState) (snapshot : ClosedFile)
    (after : HandState) : Type 0 where
  pub config : snapshot.config ≡ file.config
  pub whole : IsWhole snapshot
  pub size : after.view.known ≤ buckets_of snapshot.root
  pub later : before.view.floor ≤ snapshot.stamps
  pub known : ℕ
  pub log : List Entry
  pub told : after ≡ told_of (knowing before known) snapshot.stamps log
  pub holds : traced ≡ true → IsSnapshot file.listing snapshot before.entries before.logs log

-- what a call for a snapshot of a file promises
pub record HasSnapshot (traced : Bool) (file : FileState) (before : HandState) (result : Result ClosedFile FileFault)
    (after : HandState) : Type 0 where
  pub taken : IfOk result (λ snapshot. IsTaken traced file before snapshot after)
  pub fault : IfErr result IsNotSpent
  pub surveyed : HasSurveyed before after

-- which shard a scan is of, and how far it is
pub record ShardScanning : Type 0 where
  pub shard : ℕ
  pub scan : Scanning

-- the scan is of one of these shards, and of the number of buckets that its file began with
pub record IsScanOf (files : List FileState) (scan : ShardScanning) : Type 0 where
  pub within : scan.shard < length files
  pub initial : (file : FileState) → slice_get files scan.shard ≡ Some file →
      scan.scan.initial ≡ file.config.initial
