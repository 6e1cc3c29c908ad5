use Rattle.std.proofs.Common.{rules, ◌≡◌, ◌≤◌, length, ◌-◌}
use Rattle.lh_image.proofs.OfReading.Fillings.{fills_on}
use Rattle.lh_image.proofs.reading.filling.fill.Goals as goal

pub loop-filled-preserved : goal.loop-filled-preserved
loop-filled-preserved g c =
    let left : length c.read.new.buf ≡ length c.loop-filled.buffer - c.loop-filled.filled = search rules in
    let count : c.in_ok-count.count ≤ length c.read.new.buf = c.in_ok-count.ensures.bound.0 in
    record {
      within = search rules;
      size = search rules;
      bytes =
          fills_on (g.R.Read.remaining c.args.reader.now) (g.R.Read.remaining c.loop-filled.reader)
          (g.R.Read.remaining c.read.new.self) c.loop-filled.filled c.in_ok-count.count
          c.loop-filled.buffer c.read.new.buf c.loop-filled.invariant.within left count c.loop-filled.invariant.bytes
          c.in_ok-count.ensures.bytes.0;
    }
