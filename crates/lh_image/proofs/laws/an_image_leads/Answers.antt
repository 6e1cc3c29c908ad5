use Rattle.lh_image.proofs.OfReading.Leading.{leading_law}
use Rattle.lh_image.proofs.laws.an_image_leads.Goals as goal

pub returns : goal.returns
returns c = leading_law c.image_is_of_only_listing.ensures
