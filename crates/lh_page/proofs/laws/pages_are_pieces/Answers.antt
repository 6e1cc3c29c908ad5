use Rattle.lh_page.proofs.Pieces.{all_pieces}
use Rattle.lh_page.proofs.laws.pages_are_pieces.Goals as goal

pub returns : goal.returns
returns c = all_pieces
