use Rattle.lh_exchange.proofs.Printed.{escape_is_one_byte}
use Rattle.lh_exchange.proofs.laws.an_escape_is_one_byte.Goals as goal

pub returns : goal.returns
returns c = escape_is_one_byte
