use Rattle.lh_draw.proofs.Meanings.{apart_law}
use Rattle.lh_draw.proofs.laws.boxes_are_apart.Goals as goal

pub returns : goal.returns
returns c = apart_law
