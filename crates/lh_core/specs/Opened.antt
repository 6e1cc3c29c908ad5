-- A file that goes on from a listing
use Rattle.std.specs.Prelude.{◌≡◌, ℕ, List, map}
use Rattle.lh_page.specs.declared.pair.Pair.{Pair}
use Rattle.lh_bucket.specs.Bucket.{Seen}
use Rattle.lh_bucket.specs.Listing.{Lists, all_of, list_at, size}
use Rattle.lh_bucket.specs.PlainMap.{Records}
use Rattle.lh_bucket.specs.Records.{map_of}
use Rattle.lh_core.specs.Kept.{AreBuckets, head_at}
use Rattle.lh_core.specs.State.{resting}
use Rattle.lh_core.specs.World.{WorldSeen, StandsFor}

-- the plain map of a listing: its records, of all buckets
abbrev pub records_of : Lists → Records
records_of listing = map_of (all_of listing.lists)

-- bucket i of a listing, at its local level
abbrev pub listed_at : Lists → ℕ → Seen
listed_at listing i = record { head = head_at listing.config (size listing) i; pairs = list_at listing.lists i }

-- the first buckets of a listing
abbrev pub IsListedRow : Lists → ℕ → List Seen → Type 0
IsListedRow listing n buckets = AreBuckets (listed_at listing) n buckets

-- the records of each bucket, in the order of their places
abbrev pub lists_in : List Seen → List (List Pair)
lists_in buckets = map (λ b. b.pairs) buckets

-- A world is the file of a listing, with nobody at work: it stands for the plain map of the listing, and each bucket
-- has its records in the listing's order.
pub record IsOpenedWorld (listing : Lists) (world : WorldSeen) : Type 0 where
  pub config : world.config ≡ listing.config
  pub state : world.state ≡ resting (size listing)
  pub stands : StandsFor world (records_of listing)
  pub lists : lists_in world.buckets ≡ listing.lists
