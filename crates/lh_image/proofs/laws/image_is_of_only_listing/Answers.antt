use Rattle.lh_image.proofs.Images.ImageLaws.{one_listing_law}
use Rattle.lh_image.proofs.laws.image_is_of_only_listing.Goals as goal

pub returns : goal.returns
returns c = one_listing_law c.pages_read_back.ensures
