use Rattle.lhash.proofs.Serving.{serves_build}
use Rattle.lhash.proofs.laws.build_is_served.Goals as goal

pub returns : goal.returns
returns c = serves_build
