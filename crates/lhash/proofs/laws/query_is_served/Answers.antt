use Rattle.lhash.proofs.Serving.{serves_query}
use Rattle.lhash.proofs.laws.query_is_served.Goals as goal

pub returns : goal.returns
returns c = serves_query
