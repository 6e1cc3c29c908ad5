use Rattle.lhash.proofs.Serving.{serves_drive}
use Rattle.lhash.proofs.laws.drive_is_served.Goals as goal

pub returns : goal.returns
returns c = serves_drive
