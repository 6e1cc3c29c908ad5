use Rattle.lh_page.proofs.Pieces.{packing}
use Rattle.lh_page.proofs.laws.pages_are_packed.Goals as goal

pub returns : goal.returns
returns c = packing
