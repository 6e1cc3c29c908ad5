use Rattle.lhash.proofs.Serving.{serves_dump}
use Rattle.lhash.proofs.laws.dump_is_served.Goals as goal

pub returns : goal.returns
returns c = serves_dump
