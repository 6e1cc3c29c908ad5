-- What contracts see of a running file, but for its buckets
use Rattle.std.specs.Prelude.{◌≡◌, ℕ, ◌+◌, ◌%◌, ◌≤◌, Bool, false, []}
use Rattle.atomic_table.specs.Seated.{TableId}
use Rattle.lh_addr.specs.RootWord.{buckets_of}
use Rattle.lh_addr.specs.Settings.{Settings}
use Rattle.lh_bucket.specs.Listing.{Lists}
use Rattle.lh_file.specs.Words.HandState.{HandState}
use Rattle.lh_words.specs.Views.{first_view}

-- the table of its words, which shard it is, its configuration, whether acts are recorded, how many records it was
-- opened with, and the listing that it was opened from
pub record FileState : Type 0 where
  pub table : TableId
  pub shard : ℕ
  pub config : Settings
  pub recording : Bool
  pub opening : ℕ
  pub listing : Lists

-- the hand is one of this file
pub record IsOf (file : FileState) (hand : HandState) : Type 0 where
  pub table : hand.table ≡ file.table
  pub initial : hand.view.initial ≡ file.config.initial
  pub max : hand.view.max ≡ file.config.max
  pub recording : hand.recording ≡ file.recording

-- the hand is one of this file, and hasn't the right to split, so that it may be joined into another one
pub record MayBeJoined (file : FileState) (hand : HandState) : Type 0 where
  pub of : IsOf file hand
  pub right : hand.view.has_right ≡ false

-- the file may have this many buckets
abbrev pub MayHave : FileState → ℕ → Type 0
MayHave file buckets = (file.config.initial ≤ buckets) × (buckets ≤ file.config.max)

-- the file's root word may be this: the file is within its limits, and below the
-- greater one where a hand has the right to split
abbrev pub IsRootWord : FileState → ℕ → Type 0
IsRootWord file word = (file.config.initial ≤ buckets_of word) × (buckets_of word + word % 2 ≤ file.config.max)

-- a file that was just opened with this many buckets and records, and its first hand, which knows that number of
-- buckets, may make 2^63 calls, and has neither the right to split nor acts
pub record IsOpened (config : Settings) (buckets : ℕ) (recording : Bool) (records : ℕ)
    (file : FileState) (hand : HandState) : Type 0 where
  pub config_is : file.config ≡ config
  pub recording_is : file.recording ≡ recording
  pub opening_is : file.opening ≡ records
  pub is_of : IsOf file hand
  pub view : hand.view ≡ first_view (record { initial = config.initial; opened = buckets; max = config.max })
  pub entries : hand.entries ≡ []
  pub logs : hand.logs ≡ []
  pub acts : hand.acts ≡ []

-- the words of a file that was just opened from a listing, but for its hands
pub record IsBegun (opening : Lists) (recording : Bool) (records : ℕ) (file : FileState) : Type 0 where
  pub config_is : file.config ≡ opening.config
  pub recording_is : file.recording ≡ recording
  pub opening_is : file.opening ≡ records
  pub listing_is : file.listing ≡ opening
