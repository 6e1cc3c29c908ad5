use Rattle.std.proofs.Common.{◌-◌, length, sym, ◌∙◌, arith}
use Rattle.lh_page.specs.Format.{slot_start}
use Rattle.lh_page.proofs.ReadPages.{unused_are_zero}
use Rattle.lh_page.proofs.reading.first_filled.Goals as goal

pub returns-then-is_zero-clause-absent : goal.returns-then-is_zero-clause-absent
returns-then-is_zero-clause-absent c =
    let n = length c.args.bytes.now in
    unused_are_zero c.args.format c.args.bytes.now c.args.used c.args.format.slots
    (n - slot_start c.args.format c.args.used) (omega arith)
    (rw c.slot_start.ensures at (sym c.is_zero.ensures ∙ c.if-is_zero.true))
