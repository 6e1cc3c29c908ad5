use Rattle.lh_exchange.proofs.BodyTexts.{stream_reads}
use Rattle.lh_exchange.proofs.laws.written_is_read.Goals as goal

pub returns : goal.returns
returns c = stream_reads
