use Rattle.std.proofs.Common.{sym}
use Rattle.atomic_table.proofs.Lists.{at_index}
use Rattle.lh_file.proofs.laws.tellings_go_on.Goals as goal

pub returns : goal.returns
returns c opening count later log longer kept (len, legal, stand, begin) =
    begin kept.0 log (at_index later.logs kept.0 log kept.1 (sym kept.2))
