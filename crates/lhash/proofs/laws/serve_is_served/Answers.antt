use Rattle.lhash.proofs.Serving.{serves_client}
use Rattle.lhash.proofs.laws.serve_is_served.Goals as goal

pub returns : goal.returns
returns c = serves_client
