-- What a run of calls in threads on several shards may tell: the totals of a settled history, or why there are none
use Rattle.std.specs.Prelude.{◌≡◌, ◌≢◌, ℕ, ◌-◌, ◌%◌, ◌^◌, true, min, List, All, Option, Some, length, replicate}
use Rattle.std.specs.Prelude.{slice_get, sum_by}
use Rattle.std.specs.FinMap.{empty}
use Rattle.lh_addr.specs.Settings.{Settings}
use Rattle.lh_bucket.specs.declared.call.Call.{Call as CallOf}
use Rattle.lh_bucket.specs.Listing.{Lists, count_of}
use Rattle.lh_bucket.specs.PlainMap.{outcome}
use Rattle.lh_settling.specs.Acts.{calls_of, replies_of}
use Rattle.lh_settling.specs.Settled.{Settled}
use Rattle.lh_settling.specs.declared.act.ActLine.{ActLine}
use Rattle.lh_settling.specs.declared.settle_fault.SettleFault.TheVariants as settle
use Rattle.lh_shards.specs.OneMap.{IsLegalFrom, IsMerge}
use Rattle.lh_shards.specs.Settling.{AreSettled, HoldParts, IsFirstDue}
use Rattle.lh_shards.specs.declared.closed_shard.ClosedShard.{ClosedShard}
use Rattle.lh_subcommands.specs.declared.status.Status.{Status}
use Rattle.lhash.specs.Driven.{Counts, driven_text}
use Rattle.lhash.specs.Driving.{EndsThreaded, IsWorkersFault, empty_file}
use Rattle.lh_script.specs.declared.notation.Notation.{Notation}
use Rattle.lhash.specs.declared.drive.DriveFault.{DriveFault}
use Rattle.lhash.specs.declared.drive.DriveFault.TheVariants.{Settle}
use Rattle.lhash.specs.declared.driven.Driven.{Driven}

-- the listings of so many empty files
abbrev pub empty_files : Settings → ℕ → List Lists
empty_files settings shards = replicate shards (empty_file settings)

-- how many acts closed shards have
abbrev pub acts_in : List ClosedShard → ℕ
acts_in closed = sum_by (λ shard. length shard.acts) closed

-- so many closed shards, each of a file of the settings
pub record AreShardsOf (settings : Settings) (shards : ℕ) (closed : List ClosedShard) : Type 0 where
  pub count : length closed ≡ shards
  pub configs : All (λ shard. shard.closed.config ≡ settings) closed

-- The totals are those of a legal history of one map. So many closed shards of the settings are settled, each with a
-- history of its own, from an empty file on. These histories have a merge that keeps the order of each; it is legal,
-- from the empty map on, and the shards hold the parts of what it leaves. Its replies are counted, one for each call of
-- the script, and the records of all closed shards (from 2^64 on it would be 2^64 - 1).
pub record IsDrivenShards (settings : Settings) (shards : ℕ) (calls : List CallOf) (d : Driven) : Type 0 where
  pub closed : List ClosedShard
  pub histories : List (List ActLine)
  pub history : List ActLine
  pub of : AreShardsOf settings shards closed
  pub settled : AreSettled (empty_files settings shards) closed histories
  pub merged : IsMerge histories history
  pub legal : IsLegalFrom empty history
  pub parts : HoldParts closed (outcome empty (calls_of history))
  pub counts : Counts (replies_of history) d
  pub made : d.calls ≡ length calls
  pub records : d.records ≡ min (sum_by (λ shard. count_of shard.closed.lists) closed) (2 ^ 64 - 1)

-- the closed shard is settled, from an empty file on, where all its buckets were gathered and no split was under way
abbrev pub IsSettledWhole : Settings → ClosedShard → Type 0
IsSettledWhole settings shard =
    shard.closed.gathered ≡ true → shard.closed.root % 2 ≡ 0 →
    Settled (empty_file settings) shard.closed shard.acts

-- a bucket of the closed shard was not gathered, or a split was under way
abbrev pub IsPartial : ClosedShard → Type 0
IsPartial shard = shard.closed.gathered ≡ true → shard.closed.root % 2 ≡ 0 → ⊥

-- why there are no totals: a fault of settling, other than out of memory, that is due for one of so many closed shards
-- of the settings, from an empty file on, where a bucket of it was not gathered or a split was under way, and all
-- shards before it are settled; or the threads' work failed
abbrev pub IsDriveShardsFault : Settings → ℕ → DriveFault → Type 0
IsDriveShardsFault settings shards (Settle fault) =
    (closed : List ClosedShard) × (shard : ℕ) × AreShardsOf settings shards closed
    × IsFirstDue (empty_files settings shards) closed (record { shard = shard; fault = fault })
    × (fault ≢ settle.Memory)
    × ((partial : ClosedShard) → slice_get closed shard ≡ Some partial → IsPartial partial)
IsDriveShardsFault settings shards fault = IsWorkersFault fault

-- what `drive` may write for the calls of a script on so many shards: the totals of a legal history
abbrev pub IsTotalsOfShards : Settings → ℕ → List CallOf → List ℕ → Type 0
IsTotalsOfShards settings shards calls output =
    (d : Driven) × IsDrivenShards settings shards calls d × (output ≡ driven_text d)

-- how `drive` ends on an input with so many shards
abbrev pub EndsDrivingShards : Notation → Settings → ℕ → List ℕ → Status → Option (List ℕ) → Option (List ℕ) → Type 0
EndsDrivingShards notation settings shards =
    EndsThreaded notation (IsTotalsOfShards settings shards) (IsDriveShardsFault settings shards)
