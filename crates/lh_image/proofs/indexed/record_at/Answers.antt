use Rattle.std.proofs.Common.{ap, arith}
use Rattle.lh_page.specs.PageFields.{key_length, value_length}
use Rattle.lh_image.proofs.Looking.Slots.{good_lengths}
use Rattle.lh_image.proofs.indexed.record_at.Goals as goal

pub returns-then-slot-format-clause-good : goal.returns-then-slot-format-clause-good
returns-then-slot-format-clause-good c good =
    absurd
    (omega (
      arith,
      (good_lengths c.args.format _ good).0,
      c.if-slot-format.true,
      ap key_length c.slot_at-slot.ensures.slot,
    ))

pub returns-then-slot-format-2-clause-good : goal.returns-then-slot-format-2-clause-good
returns-then-slot-format-2-clause-good c good =
    absurd
    (omega (
      arith,
      (good_lengths c.args.format _ good).1,
      c.if-slot-format-2.true,
      ap value_length c.slot_at-slot.ensures.slot,
    ))
