use Rattle.lhash.proofs.Serving.{serves_steps}
use Rattle.lhash.proofs.laws.steps_is_served.Goals as goal

pub returns : goal.returns
returns c = serves_steps
