use Rattle.lh_page.proofs.ShownPages.{read_back}
use Rattle.lh_page.proofs.laws.pages_read_back.Goals as goal

pub returns : goal.returns
returns c = read_back
