use Rattle.lh_image.proofs.OfReading.Filled.{filled}
use Rattle.lh_image.proofs.reading.filling.read_into.Goals as goal

pub returns-in-Ok-clause-filled : goal.returns-in-Ok-clause-filled
returns-in-Ok-clause-filled g c =
    filled (g.R.Read.remaining c.args.reader.now) (g.R.Read.remaining c.fill.new.reader) c.in-Ok.count c.fill.new.buffer
    c.in-Ok.ensures.ok
