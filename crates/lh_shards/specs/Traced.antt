-- Traced shards are settled
use Rattle.std.specs.Prelude.{◌≡◌, ℕ, ◌+◌, ◌%◌, ◌^◌, true, List, length, Some, slice_get}
use Rattle.lh_bucket.specs.Listing.{Lists}
use Rattle.lh_settling.specs.declared.act.ActLine.{ActLine}
use Rattle.lh_file.specs.Closing.{NoneOutside}
use Rattle.lh_file.specs.FileState.{FileState}
use Rattle.lh_file.specs.Words.HandState.{HandState}
use Rattle.lh_shards.specs.Closing.{AreClosedBy, AreShards}
use Rattle.lh_shards.specs.Hands.{AreOf}
use Rattle.lh_shards.specs.Settling.{AreSettled, MakeOneMap}
use Rattle.lh_shards.specs.declared.closed_shard.ClosedShard.{ClosedShard}

-- All buckets of the closed shard were met, and no split was under way. All calls came home to the hand that closed it,
-- and none of its acts was on a bucket that isn't the file's.
pub record IsClosedWhole (hand : HandState) (shard : ClosedShard) : Type 0 where
  pub gathered : shard.closed.gathered ≡ true
  pub still : shard.closed.root % 2 ≡ 0
  pub came_home : hand.view.left + length hand.acts ≡ 2 ^ 63
  pub inside : NoneOutside hand.entries

-- Traced shards, opened from some listings and closed whole, have one legal history each, by which they are settled. So
-- they are one map: every merge of the histories is legal, and what it leaves is what the shards hold.
abbrev pub TracedLaw : Type 0
TracedLaw =
    (openings : List Lists) (files : List FileState) (hands : List HandState) (shards : List ClosedShard) →
    length openings ≡ length shards →
    ((shard : ℕ) (opening : Lists) (file : FileState) → slice_get openings shard ≡ Some opening →
    slice_get files shard ≡ Some file → file.listing ≡ opening) →
    AreOf files hands → AreShards shards → AreClosedBy true files hands shards →
    ((shard : ℕ) (hand : HandState) (closed : ClosedShard) → slice_get hands shard ≡ Some hand →
    slice_get shards shard ≡ Some closed → IsClosedWhole hand closed) →
    (histories : List (List ActLine)) × AreSettled openings shards histories × MakeOneMap openings shards histories
