use Rattle.lh_draw.proofs.Meanings.{legend_law}
use Rattle.lh_draw.proofs.laws.levels_are_named.Goals as goal

pub returns : goal.returns
returns c = legend_law
