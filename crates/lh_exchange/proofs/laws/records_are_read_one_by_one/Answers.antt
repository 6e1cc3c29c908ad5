use Rattle.lh_exchange.proofs.OneByOne.{one_by_one}
use Rattle.lh_exchange.proofs.laws.records_are_read_one_by_one.Goals as goal

pub returns : goal.returns
returns c = one_by_one
