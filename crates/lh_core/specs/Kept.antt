-- What holds of every world
use Rattle.std.specs.Prelude.{◌≡◌, ℕ, ◌<◌, List, [], length, Some}
use Rattle.lh_addr.specs.Growth.{level_of}
use Rattle.lh_addr.specs.Settings.{Settings, IsInRange}
use Rattle.lh_bucket.specs.Bucket.{Head, Seen}
use Rattle.lh_core.specs.Sound.{IsSound}
use Rattle.lh_core.specs.World.{WorldSeen, HaveKeysOnce, bucket_at}

-- the head of bucket i
abbrev pub head_at : Settings → ℕ → ℕ → Head
head_at config size i = record {
  number = i;
  initial = config.initial;
  capacity = config.capacity;
  level = Some (level_of config.initial size i);
}

-- each bucket of a row has its number and its level, and its keys once
pub record IsBucketRow (config : Settings) (size : ℕ) (buckets : List Seen) : Type 0 where
  pub all : length buckets ≡ size
  pub heads : (i : ℕ) → i < size → (bucket_at buckets i).head ≡ head_at config size i
  pub once : HaveKeysOnce size buckets

-- the configuration is in range, the state is sound, and the filled buckets are there
pub record IsWorld (world : WorldSeen) : Type 0 where
  pub range : IsInRange world.config
  pub sound : IsSound world.config world.state
  pub row : IsBucketRow world.config world.state.filled world.buckets

-- bucket i of a file that begins
abbrev pub empty_at : Settings → ℕ → Seen
empty_at config i = record {
  head = record { number = i; initial = config.initial; capacity = config.capacity; level = Some 0 };
  pairs = [];
}

-- the first buckets of a file are these, each by its number
pub record AreBuckets (bucket_is : ℕ → Seen) (n : ℕ) (buckets : List Seen) : Type 0 where
  pub all : length buckets ≡ n
  pub each : (i : ℕ) → i < n → bucket_at buckets i ≡ bucket_is i

-- the first buckets of a file, empty and at level 0
abbrev pub IsEmptyRow : Settings → ℕ → List Seen → Type 0
IsEmptyRow config n buckets = AreBuckets (empty_at config) n buckets
