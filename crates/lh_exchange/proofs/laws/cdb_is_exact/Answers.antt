use Rattle.lh_exchange.proofs.BodyTexts.{stream_exact}
use Rattle.lh_exchange.proofs.laws.cdb_is_exact.Goals as goal

pub returns : goal.returns
returns c = stream_exact
