use Rattle.lh_exchange.proofs.OneByOne.{line_by_line}
use Rattle.lh_exchange.proofs.laws.a_header_is_read_line_by_line.Goals as goal

pub returns : goal.returns
returns c = line_by_line
