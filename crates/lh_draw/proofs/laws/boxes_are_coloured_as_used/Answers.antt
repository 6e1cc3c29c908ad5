use Rattle.lh_draw.proofs.Meanings.{colour_law}
use Rattle.lh_draw.proofs.laws.boxes_are_coloured_as_used.Goals as goal

pub returns : goal.returns
returns c = colour_law c.pages_are_pieces.ensures
