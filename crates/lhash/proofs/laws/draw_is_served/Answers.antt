use Rattle.lhash.proofs.Serving.{serves_draw}
use Rattle.lhash.proofs.laws.draw_is_served.Goals as goal

pub returns : goal.returns
returns c = serves_draw
