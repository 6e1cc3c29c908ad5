use Rattle.lh_image.proofs.Images.RoundTrip.{round_trip}
use Rattle.lh_image.proofs.laws.written_images_read_back.Goals as goal

pub returns : goal.returns
returns c = round_trip c.what_is_written_is_an_image.ensures c.image_is_of_only_listing.ensures
