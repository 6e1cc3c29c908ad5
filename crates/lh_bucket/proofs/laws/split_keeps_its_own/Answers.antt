use Rattle.lh_bucket.proofs.Kept.{stay_law}
use Rattle.lh_bucket.proofs.laws.split_keeps_its_own.Goals as goal

pub returns : goal.returns
returns c = stay_law
