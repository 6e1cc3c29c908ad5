-- Closed shards settled: one history a shard, and one plain map of all
use Rattle.std.specs.Prelude.{◌≡◌, ◌≢◌, ℕ, ◌<◌, List, length, Some, slice_get}
use Rattle.lh_bucket.specs.Listing.{Lists}
use Rattle.lh_bucket.specs.PlainMap.{Records, outcome}
use Rattle.lh_settling.specs.Acts.{calls_of}
use Rattle.lh_settling.specs.SettleFault.{IsDue}
use Rattle.lh_settling.specs.Settled.{map_in, HoldsMap, IsSettled, Settled}
use Rattle.lh_settling.specs.declared.act.ActLine.{ActLine}
use Rattle.lh_settling.specs.declared.settle_fault.SettleFault.TheVariants.{Memory}
use Rattle.lh_shards.specs.OneMap.{IsLegalFrom, IsMerge, IsPart}
use Rattle.lh_shards.specs.declared.closed_shard.ClosedShard.{ClosedShard}
use Rattle.lh_shards.specs.declared.fault.ShardFault.{ShardFault}

-- each shard is settled, from the listing that it was opened from, with its history
pub record AreSettled (openings : List Lists) (shards : List ClosedShard) (histories : List (List ActLine))
    : Type 0 where
  pub count : length histories ≡ length shards
  pub each : (shard : ℕ) (opening : Lists) (closed : ClosedShard) (history : List ActLine) →
      slice_get openings shard ≡ Some opening → slice_get shards shard ≡ Some closed →
      slice_get histories shard ≡ Some history → IsSettled opening closed.closed closed.acts history

-- the fault is due in its shard, which is not settled unless memory ran out, and all shards before that are settled
pub record IsFirstDue (openings : List Lists) (shards : List ClosedShard) (at : ShardFault) : Type 0 where
  pub opening : Lists
  pub closed : ClosedShard
  pub opening_is : slice_get openings at.shard ≡ Some opening
  pub closed_is : slice_get shards at.shard ≡ Some closed
  pub due : IsDue opening closed.closed closed.acts at.fault
  pub unsettled : at.fault ≢ Memory → Settled opening closed.closed closed.acts → ⊥
  pub before : (earlier : ℕ) (opening : Lists) (closed : ClosedShard) → earlier < at.shard →
      slice_get openings earlier ≡ Some opening → slice_get shards earlier ≡ Some closed →
      Settled opening closed.closed closed.acts

-- the map of each listing is the part of its shard of a whole map
abbrev pub AreParts : Records → List Lists → Type 0
AreParts whole openings =
    (shard : ℕ) (opening : Lists) → slice_get openings shard ≡ Some opening →
    IsPart (length openings) shard whole (map_in opening)

-- each closed shard holds its part of a map
abbrev pub HoldParts : List ClosedShard → Records → Type 0
HoldParts shards whole =
    (shard : ℕ) (closed : ClosedShard) → slice_get shards shard ≡ Some closed →
    (part : Records) × IsPart (length shards) shard whole part × HoldsMap closed.closed part

-- Where the listings are the parts of a map, every merge of the histories is a legal history of that one map, and the
-- closed shards hold the parts of what it leaves.
abbrev pub MakeOneMap : List Lists → List ClosedShard → List (List ActLine) → Type 0
MakeOneMap openings shards histories =
    (whole : Records) (merged : List ActLine) → AreParts whole openings → IsMerge histories merged →
    IsLegalFrom whole merged × HoldParts shards (outcome whole (calls_of merged))
