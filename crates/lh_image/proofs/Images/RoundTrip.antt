-- What is written is read back, since it is an image of its listing and of no other.
use Rattle.std.proofs.Common.{Option, sym, ap, ◌∙◌}
use Rattle.std.specs.Prelude.{Result, Ok}
use Rattle.lh_bucket.specs.Listing.{Lists}
use Rattle.lh_image.specs.declared.fault.ImageFault.{ImageFault}
use Rattle.lh_image.specs.Canonical.{CanonicalLaw, canonical}
use Rattle.lh_image.specs.Image.{OneListingLaw}
use Rattle.lh_image.specs.Layout.{view_of}
use Rattle.lh_image.specs.Reading.{judged_by, reading_of}
use Rattle.lh_image.specs.RoundTrip.{RoundTripLaw}

-- the image of either version that is written of a listing is read as that listing
pub round_trip : CanonicalLaw → OneListingLaw → RoundTripLaw
unfolding reading_of
round_trip written one version l listing fits few =
    let r = one (canonical version l) l (written version l listing fits few) in
    ap (λ (o : Option ImageFault). judged_by o (view_of (canonical version l))) r.0
    ∙ ap (λ (x : Lists). let a : Result Lists ImageFault = Ok x in a) (sym r.1)
