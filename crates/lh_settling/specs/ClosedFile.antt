-- A file that is closed, and a snapshot
use Rattle.std.specs.Prelude.{◌≡◌, ℕ, ◌%◌, ◌≤◌, Bool, List, length}
use Rattle.std.specs.List.{IsDistinct}
use Rattle.std.specs.Str.{bytes_eq}
use Rattle.lh_addr.specs.RootWord.{buckets_of}
use Rattle.lh_addr.specs.Settings.{Settings, IsInRange}
use Rattle.lh_page.specs.declared.pair.Pair.{Pair}
use Rattle.lh_page.specs.Records.{keys_of}
use Rattle.lh_bucket.specs.Listing.{EachPlace, IsHome, list_at}

-- its configuration, its root word, its stamp word, the records of each bucket that it has, in the order of their
-- places, and whether the seat of each bucket was there
pub record ClosedFile : Type 0 where
  pub config : Settings
  pub root : ℕ
  pub stamps : ℕ
  pub lists : List (List Pair)
  pub gathered : Bool

-- what holds of every closed file: it has its initial number of buckets or more, up to
-- the greatest one, and no bucket stands past that
pub record IsClosed (file : ClosedFile) : Type 0 where
  pub config : IsInRange file.config
  pub from_initial : file.config.initial ≤ buckets_of file.root
  pub to_max : buckets_of file.root ≤ file.config.max
  pub few : length file.lists ≤ file.config.max

-- The snapshot has a list for each bucket, and no split under way: each record stands in the bucket of its address, and
-- no key stands twice.
pub record IsWhole (snapshot : ClosedFile) : Type 0 where
  pub even : snapshot.root % 2 ≡ 0
  pub each : length snapshot.lists ≡ buckets_of snapshot.root
  pub home : EachPlace (IsHome snapshot.config.initial (buckets_of snapshot.root)) snapshot.lists
  pub distinct : (bucket : ℕ) → IsDistinct bytes_eq (keys_of (list_at snapshot.lists bucket))
