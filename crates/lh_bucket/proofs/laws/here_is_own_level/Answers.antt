use Rattle.lh_bucket.proofs.Kept.{here_law}
use Rattle.lh_bucket.proofs.laws.here_is_own_level.Goals as goal

pub returns : goal.returns
returns c = here_law
