use Rattle.lh_image.proofs.Images.Counts.{census_law}
use Rattle.lh_image.proofs.laws.census_counts_pages.Goals as goal

pub returns : goal.returns
returns c = census_law c.pages_are_packed.ensures
