use Rattle.lhash.proofs.Serving.{serves_get}
use Rattle.lhash.proofs.laws.get_is_served.Goals as goal

pub returns : goal.returns
returns c = serves_get
