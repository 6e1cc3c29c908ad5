use Rattle.std.proofs.Common.{arith}
use Rattle.lh_image.proofs.OfReading.Steps.{come_more}
use Rattle.lh_image.proofs.reading.pages.take_page.Goals as goal

pub returns-clause-come : goal.returns-clause-come
returns-clause-come c all is enough come =
    rw c.see.ensures
    (come_more all c.args.header.now c.args.number c.args.table.now.entries.items c.push.new.self.entries.items
    c.args.table.now.pairs.items c.push.new.self.pairs.items c.args.faults.now
    c.head_of-head.result c.in_ok-has_bad_slot.has_bad_slot c.args.bytes.now c.requires.number is c.head_of-head.ensures
    c.in_ok-has_bad_slot.ensures.slot c.requires.within c.in_ok-has_bad_slot.ensures.pushed enough
    (λ i. omega (arith, c.type_inv.bytes i)) come)
