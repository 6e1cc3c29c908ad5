use Rattle.lhash.proofs.Serving.{serves_commands}
use Rattle.lhash.proofs.laws.commands_is_served.Goals as goal

pub returns : goal.returns
returns c = serves_commands
