use Rattle.lh_core.proofs.Logs.Histories.{rises_law}
use Rattle.lh_core.proofs.laws.acts_have_risen.Goals as goal

pub returns : goal.returns
returns c = rises_law c.linear_hashing.ensures
