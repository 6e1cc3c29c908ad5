-- Shards that are closed
use Rattle.std.specs.Prelude.{◌≡◌, ℕ, ◌%◌, Bool, true, List, length, Some, slice_get}
use Rattle.lh_file.specs.Closing.{NoneIsLost, HasHistory}
use Rattle.lh_file.specs.FileState.{FileState}
use Rattle.lh_file.specs.HashFile.{IsClosing}
use Rattle.lh_file.specs.Words.HandState.{HandState}
use Rattle.lh_shards.specs.Hands.{AreAtHome, IsCount}
use Rattle.lh_shards.specs.declared.closed_shard.ClosedShard.{ClosedShard}

-- The hand has closed the file, its acts are kept, and none of them is lost. What was done with a traced file is one
-- legal history, where all buckets were met and no split was under way.
pub record IsClosedBy (traced : Bool) (file : FileState) (hand : HandState) (shard : ClosedShard) : Type 0 where
  pub closing : IsClosing file hand shard.closed
  pub acts : shard.acts ≡ hand.acts
  pub none_is_lost : NoneIsLost hand shard.closed.stamps
  pub history : traced ≡ true → shard.closed.gathered ≡ true → shard.closed.root % 2 ≡ 0 →
      HasHistory file.listing shard.closed shard.acts hand

-- each file is closed by the hand of its shard
pub record AreClosedBy (traced : Bool) (files : List FileState) (hands : List HandState) (shards : List ClosedShard)
    : Type 0 where
  pub count : length shards ≡ length files
  pub each : (shard : ℕ) (file : FileState) (hand : HandState) (closed : ClosedShard) →
      slice_get files shard ≡ Some file → slice_get hands shard ≡ Some hand → slice_get shards shard ≡ Some closed →
      IsClosedBy traced file hand closed

-- what holds of all closed shards: there are 1 to 1,024, and the keys of the acts of each belong there
pub record AreShards (shards : List ClosedShard) : Type 0 where
  pub range : IsCount (length shards)
  pub home : (shard : ℕ) (closed : ClosedShard) → slice_get shards shard ≡ Some closed →
      AreAtHome (length shards) shard closed.acts
