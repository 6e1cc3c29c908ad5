use Rattle.lh_draw.proofs.Meanings.{box_law}
use Rattle.lh_draw.proofs.laws.pages_are_boxes.Goals as goal

pub returns : goal.returns
returns c = box_law
