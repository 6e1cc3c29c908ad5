use Rattle.lhash.proofs.Serving.{refuses_beside}
use Rattle.lhash.proofs.laws.settings_beside_an_image_are_refused.Goals as goal

pub returns : goal.returns
returns c = refuses_beside
