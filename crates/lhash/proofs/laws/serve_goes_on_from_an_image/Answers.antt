use Rattle.lhash.proofs.Serving.{serves_from}
use Rattle.lhash.proofs.laws.serve_goes_on_from_an_image.Goals as goal

pub returns : goal.returns
returns c = serves_from
