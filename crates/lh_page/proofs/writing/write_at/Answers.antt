use Rattle.std.proofs.Common.{arith}
use Rattle.lh_page.proofs.WrittenPages.{writes_slot}
use Rattle.lh_page.proofs.writing.write_at.Goals as goal

pub returns : goal.returns
returns c =
    rw c.slot_start.ensures
    (writes_slot c.args.format c.args.bytes.now c.write_slot.new.bytes c.args.place _ c.args.pair.now
    c.requires.within c.requires.size (omega arith) (omega (arith, c.write_slot.ensures.size))
    c.write_slot.ensures.text)
