-- Traced shards that are being opened, and the tables of their files
use Rattle.std.specs.Prelude.{◌≡◌, ℕ, ◌-◌, ◌^◌, Bool, true, List, Option, Some, None, length, min, slice_get}
use Rattle.lh_bucket.specs.Listing.{Lists, count_of, size}
use Rattle.lh_file.specs.Buckets.Brands.{TableId, IsBrandOf, no_table}
use Rattle.lh_file.specs.FileState.{FileState, IsOpened}
use Rattle.lh_file.specs.FileState.{IsBegun}
use Rattle.lh_file.specs.Words.HandState.{HandState}
use Rattle.lh_shards.specs.Hands.{AreOf, EachShard}

-- the table of a file, if there is one
abbrev pub table_of : Option FileState → TableId
table_of (Some file) = file.table
table_of None = no_table

-- the table of each shard's file
abbrev pub tables_of : List FileState → ℕ → TableId
tables_of files shard = table_of (slice_get files shard)

-- the brand names the table of each of these files as that of its shard
abbrev pub AreBrandsOf : Bool → (ℕ → TableId) → List FileState → Type 0
AreBrandsOf named tables files =
    (shard : ℕ) (file : FileState) → slice_get files shard ≡ Some file → IsBrandOf true named tables file

-- each file is begun from the listing of its shard, whose number it has
pub record AreBegun (listings : List Lists) (recording : Bool) (files : List FileState) : Type 0 where
  pub count : length files ≡ length listings
  pub each : (shard : ℕ) (listing : Lists) (file : FileState) → slice_get listings shard ≡ Some listing →
      slice_get files shard ≡ Some file →
      IsBegun listing recording (min (count_of listing.lists) (2 ^ 64 - 1)) file × (file.shard ≡ shard)

-- traced shards are those that were being opened, and these are their first hands
pub record AreTraced (openings files : List FileState) (hands : List HandState) : Type 0 where
  pub same : files ≡ openings
  pub each : EachShard (λ shard file hand.
      IsOpened file.listing.config (size file.listing) file.recording file.opening file hand) files hands
  pub of : AreOf files hands
