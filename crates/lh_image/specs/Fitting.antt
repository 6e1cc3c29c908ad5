-- Which listings have room in the pages of a version
use Rattle.std.specs.Prelude.{◌<◌, ◌≤◌, ◌⊎◌, Bool, ◌||◌, length, nat_lt}
use Rattle.lh_page.specs.declared.format.Format.{Format}
use Rattle.lh_page.specs.declared.pair.Pair.{Pair}
use Rattle.lh_page.specs.Records.{key_at, value_at}
use Rattle.lh_bucket.specs.Listing.{EachPlace, Lists, PlaceFact}
use Rattle.lh_image.specs.declared.version.Version.{Version}
use Rattle.lh_image.specs.Version.{format_of, slots}

-- whether a slot has no room for a record
unfoldable pub is_too_long : Format → Pair → Bool
is_too_long f pair = nat_lt f.key (length pair.key) || nat_lt f.value (length pair.value)

-- a slot has room for the record at the place
abbrev pub IsFitting : Format → PlaceFact
IsFitting f bucket pairs place = (length (key_at pairs place) ≤ f.key) × (length (value_at pairs place) ≤ f.value)

-- a slot has no room for its key, or none for its value
abbrev pub IsTooLong : Format → PlaceFact
IsTooLong f bucket pairs place = (f.key < length (key_at pairs place)) ⊎ (f.value < length (value_at pairs place))

-- the pages of a version have slots for the listing's capacity, and these have room for its records
pub record FitsVersion (version : Version) (l : Lists) : Type 0 where
  pub capacity : l.config.capacity ≤ slots version
  pub records : EachPlace (IsFitting (format_of version)) l.lists
