use Rattle.lh_script.proofs.ReadBack.{short}
use Rattle.lh_script.proofs.laws.words_are_short.Goals as goal

pub returns : goal.returns
returns c = short
