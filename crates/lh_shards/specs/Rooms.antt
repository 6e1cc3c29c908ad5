-- What has room in the buckets of shards
use Rattle.std.specs.Prelude.{◌≡◌, ℕ, ◌<◌, List, Some, slice_get}
use Rattle.lh_page.specs.Slots.{widest_room}
use Rattle.lh_bucket.specs.Listing.{Lists, EachPlace}
use Rattle.lh_file.specs.Buckets.Rooms.{FitsAt, FitListing, IsRoomFault}
use Rattle.lh_file.specs.FileState.{FileState}
use Rattle.lh_shards.specs.declared.fault.ShardRoomFault.{ShardRoomFault}

-- each record of all listings has room: buckets of the widest room have it for each
abbrev pub FitListings : ℕ → List Lists → Type 0
FitListings room listings =
    room < widest_room → (shard : ℕ) (listing : Lists) → slice_get listings shard ≡ Some listing →
    EachPlace (FitsAt room) listing.lists

-- the same of the listings that files begin from
abbrev pub FitFiles : ℕ → List FileState → Type 0
FitFiles room files =
    room < widest_room → (shard : ℕ) (file : FileState) → slice_get files shard ≡ Some file →
    EachPlace (FitsAt room) file.listing.lists

-- the listing at a place is the first with a record that has no room, and its fault names the first such record
pub record IsShardRoomFault (room : ℕ) (listings : List Lists) (at : ShardRoomFault) : Type 0 where
  pub listing : Lists
  pub listing_is : slice_get listings at.shard ≡ Some listing
  pub first : IsRoomFault room listing at.fault
  pub before : (earlier : ℕ) (other : Lists) → earlier < at.shard → slice_get listings earlier ≡ Some other →
      FitListing room other
