use Rattle.lh_bucket.proofs.PlacedLaw.{placed_law}
use Rattle.lh_bucket.proofs.laws.listing_is_placed.Goals as goal

pub returns : goal.returns
returns c = placed_law
