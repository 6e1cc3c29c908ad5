use Rattle.lh_exchange.proofs.RecordLengths.{record_length}
use Rattle.lh_exchange.proofs.laws.records_have_room.Goals as goal

pub returns : goal.returns
returns c = record_length
