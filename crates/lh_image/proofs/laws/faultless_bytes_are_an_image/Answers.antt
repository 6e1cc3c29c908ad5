use Rattle.lh_image.proofs.Images.ImageLaws.{image_law}
use Rattle.lh_image.proofs.laws.faultless_bytes_are_an_image.Goals as goal

pub returns : goal.returns
returns c = image_law c.pages_read_back.ensures c.faultless_bytes_are_a_page.ensures
