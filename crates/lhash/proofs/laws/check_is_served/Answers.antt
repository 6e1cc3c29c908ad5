use Rattle.lhash.proofs.Serving.{serves_check}
use Rattle.lhash.proofs.laws.check_is_served.Goals as goal

pub returns : goal.returns
returns c = serves_check
