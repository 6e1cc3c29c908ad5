use Rattle.lh_page.proofs.ShownPages.{faultless}
use Rattle.lh_page.proofs.laws.faultless_bytes_are_a_page.Goals as goal

pub returns : goal.returns
returns c = faultless
