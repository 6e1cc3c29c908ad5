-- What is written is read back
use Rattle.std.specs.Prelude.{◌≡◌, ◌≤◌, Ok}
use Rattle.lh_bucket.specs.Listing.{Lists, IsListing}
use Rattle.lh_image.specs.declared.version.Version.{Version}
use Rattle.lh_image.specs.Fitting.{FitsVersion}
use Rattle.lh_image.specs.Layout.{most_pages}
use Rattle.lh_image.specs.Canonical.{canonical, page_total}
use Rattle.lh_image.specs.Reading.{reading_of}

-- The image of either version that is written of a listing is read as that listing.
abbrev pub RoundTripLaw : Type 0
RoundTripLaw =
    (version : Version) (l : Lists) → IsListing l → FitsVersion version l → page_total l ≤ most_pages →
    reading_of (canonical version l) ≡ Ok l
