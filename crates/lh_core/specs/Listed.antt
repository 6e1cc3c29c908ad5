-- The listing of a file
use Rattle.std.specs.Prelude.{◌≡◌, ◌==◌, ℕ, ◌<◌}
use Rattle.std.specs.FinMap.{retain_keys}
use Rattle.lh_addr.specs.Fnv.{code_of}
use Rattle.lh_addr.specs.Growth.{address}
use Rattle.lh_addr.specs.Settings.{Settings}
use Rattle.lh_bucket.specs.Listing.{Lists, IsListing, size, list_at}
use Rattle.lh_bucket.specs.PlainMap.{Records}
use Rattle.lh_bucket.specs.Records.{map_of}

-- A listing of a file with these settings and so many buckets that stands for a map: each record of the map is in the
-- list of the bucket of its address and nowhere else, once.
pub record IsListed (settings : Settings) (map : Records) (count : ℕ) (l : Lists) : Type 0 where
  pub config : l.config ≡ settings
  pub buckets : size l ≡ count
  pub placed : (i : ℕ) → i < size l →
      map_of (list_at l.lists i) ≡ retain_keys map (λ key. address settings.initial (size l) (code_of key) == i)
  pub listing : IsListing l
