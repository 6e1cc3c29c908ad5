use Rattle.lhash.proofs.Serving.{serves_apply}
use Rattle.lhash.proofs.laws.apply_is_served.Goals as goal

pub returns : goal.returns
returns c = serves_apply
