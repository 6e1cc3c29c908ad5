use Rattle.lhash.proofs.Serving.{serves_load}
use Rattle.lhash.proofs.laws.load_is_served.Goals as goal

pub returns : goal.returns
returns c = serves_load
