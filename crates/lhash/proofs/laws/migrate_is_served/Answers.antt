use Rattle.lhash.proofs.Serving.{serves_migrate}
use Rattle.lhash.proofs.laws.migrate_is_served.Goals as goal

pub returns : goal.returns
returns c = serves_migrate
