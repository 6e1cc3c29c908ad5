use Rattle.lhash.proofs.Serving.{refuses_below}
use Rattle.lhash.proofs.laws.settings_out_of_order_are_refused.Goals as goal

pub returns : goal.returns
returns c = refuses_below
