use Rattle.lh_core.proofs.Logs.Histories.{aims_law}
use Rattle.lh_core.proofs.laws.aims_lead.Goals as goal

pub returns : goal.returns
returns c = aims_law c.linear_hashing.ensures
