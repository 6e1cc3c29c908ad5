-- Listings of shards, and shards that are opened from them
use Rattle.std.specs.Prelude.{◌≡◌, ◌≢◌, ℕ, ◌-◌, ◌^◌, ◌<◌, Bool, List, [], ◌∷◌, ◌++◌, length, min, Some, slice_get}
use Rattle.lh_page.specs.Records.{key_at}
use Rattle.lh_page.specs.declared.pair.Pair.{Pair}
use Rattle.lh_bucket.specs.Listing.{Lists, PlaceFact, EachPlace, IsFirst, all_of, count_of, size}
use Rattle.lh_bucket.specs.PlainMap.{Records}
use Rattle.lh_bucket.specs.Records.{map_of}
use Rattle.lh_file.specs.FileState.{FileState, IsOpened}
use Rattle.lh_file.specs.Words.HandState.{HandState}
use Rattle.lh_shards.specs.Hands.{AreOf}
use Rattle.lh_shards.specs.Number.{home_of}

-- the key of the record at a place belongs to this shard, of so many
abbrev pub IsHomeIn : ℕ → ℕ → PlaceFact
IsHomeIn shards shard bucket pairs place = home_of shards (key_at pairs place) ≡ shard

-- it belongs to another shard
abbrev pub IsAwayIn : ℕ → ℕ → PlaceFact
IsAwayIn shards shard bucket pairs place = home_of shards (key_at pairs place) ≢ shard

-- each record stands in the listing of its key's shard
abbrev pub AreHome : List Lists → Type 0
AreHome listings =
    (shard : ℕ) (listing : Lists) → slice_get listings shard ≡ Some listing →
    EachPlace (IsHomeIn (length listings) shard) listing.lists

-- the first record that stands in another shard than its own: by the shard, the bucket and the place
pub record IsFirstOfOtherShard (listings : List Lists) (shard bucket place : ℕ) : Type 0 where
  pub listing : Lists
  pub at : slice_get listings shard ≡ Some listing
  pub here : IsFirst (IsHomeIn (length listings) shard) (IsAwayIn (length listings) shard) listing.lists bucket place
  pub before : (earlier : ℕ) (other : Lists) → earlier < shard → slice_get listings earlier ≡ Some other →
      EachPlace (IsHomeIn (length listings) earlier) other.lists

-- all listings have one configuration
abbrev pub AreAlike : List Lists → Type 0
AreAlike listings =
    (shard : ℕ) (first listing : Lists) → slice_get listings 0 ≡ Some first →
    slice_get listings shard ≡ Some listing → listing.config ≡ first.config

-- the first listing whose configuration is not that of the first one
pub record IsFirstOther (listings : List Lists) (shard : ℕ) : Type 0 where
  pub first : Lists
  pub listing : Lists
  pub first_at : slice_get listings 0 ≡ Some first
  pub at : slice_get listings shard ≡ Some listing
  pub other : listing.config ≢ first.config
  pub before : (earlier : ℕ) (alike : Lists) → earlier < shard → slice_get listings earlier ≡ Some alike →
      alike.config ≡ first.config

-- the records of all listings, one listing after another, and the map that they stand for
abbrev pub all_records : List Lists → List Pair
all_records [] = []
all_records (listing ∷ listings) = all_of listing.lists ++ all_records listings

abbrev pub whole_of : List Lists → Records
whole_of listings = map_of (all_records listings)

-- each file is opened from the listing of its shard, with its first hand
pub record AreOpened (listings : List Lists) (recording : Bool) (files : List FileState) (hands : List HandState)
    : Type 0 where
  pub count : length files ≡ length listings
  pub each : (shard : ℕ) (listing : Lists) (file : FileState) (hand : HandState) →
      slice_get listings shard ≡ Some listing → slice_get files shard ≡ Some file → slice_get hands shard ≡ Some hand →
      IsOpened listing.config (size listing) recording (min (count_of listing.lists) (2 ^ 64 - 1)) file hand
  pub listing : (shard : ℕ) (listing : Lists) (file : FileState) → slice_get listings shard ≡ Some listing →
      slice_get files shard ≡ Some file → file.listing ≡ listing
  pub of : AreOf files hands
