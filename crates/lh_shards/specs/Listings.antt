-- The listings of closed shards
use Rattle.std.specs.Prelude.{◌≡◌, ◌⊎◌, ℕ, ◌<◌, List, length, take, Some, slice_get}
use Rattle.lh_addr.specs.RootWord.{buckets_of}
use Rattle.lh_bucket.specs.Listing.{Lists, IsListing}
use Rattle.lh_bucket.specs.ListingFault.{IsFaultOf}
use Rattle.lh_bucket.specs.declared.listing.ListingFault.TheVariants.{Memory}
use Rattle.lh_settling.specs.ClosedFile.{ClosedFile}
use Rattle.lh_settling.specs.declared.act.ActLine.{ActLine}
use Rattle.lh_shards.specs.Closing.{AreShards}
use Rattle.lh_shards.specs.Opening.{AreHome}
use Rattle.lh_shards.specs.Settling.{AreSettled}
use Rattle.lh_shards.specs.declared.closed_shard.ClosedShard.{ClosedShard}
use Rattle.lh_shards.specs.declared.fault.ListingsFault.{ListingsFault}

-- the configuration of a closed file, and the records of each bucket that it has
abbrev pub listing_of : ClosedFile → Lists
listing_of closed = record { config = closed.config; lists = take (buckets_of closed.root) closed.lists }

-- each listing is that of the closed file of its shard
pub record AreListed (shards : List ClosedShard) (listings : List Lists) : Type 0 where
  pub count : length listings ≡ length shards
  pub each : (shard : ℕ) (closed : ClosedShard) (listing : Lists) → slice_get shards shard ≡ Some closed →
      slice_get listings shard ≡ Some listing → listing ≡ listing_of closed.closed

-- the closed file of the shard has this fault as a listing, or memory ran out; those of all shards before it have none
pub record IsListingsFault (shards : List ClosedShard) (at : ListingsFault) : Type 0 where
  pub closed : ClosedShard
  pub closed_is : slice_get shards at.shard ≡ Some closed
  pub due : (at.fault ≡ Memory) ⊎ IsFaultOf closed.closed.config (buckets_of closed.closed.root)
      (listing_of closed.closed).lists at.fault
  pub before : (shard : ℕ) (earlier : ClosedShard) → shard < at.shard → slice_get shards shard ≡ Some earlier →
      IsListing (listing_of earlier.closed)

-- Where shards were opened from listings whose records stand in their own shards, and are settled, so do the records of
-- the listings that they leave.
abbrev pub ListedLaw : Type 0
ListedLaw =
    (openings listings : List Lists) (shards : List ClosedShard) (histories : List (List ActLine)) →
    length openings ≡ length shards → AreHome openings → AreShards shards → AreSettled openings shards histories →
    AreListed shards listings → AreHome listings
