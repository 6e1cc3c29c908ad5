use Rattle.std.proofs.Common.{ap, arith}
use Rattle.lh_page.specs.PageFields.{key_length}
use Rattle.lh_image.proofs.Looking.Slots.{good_lengths}
use Rattle.lh_image.proofs.indexed.has_key_at.Goals as goal

pub returns-else-slot-format : goal.returns-else-slot-format
returns-else-slot-format c good =
    let short = (good_lengths c.args.format _ good).0 in
    absurd (omega (arith, short, c.if-slot-format.false, ap key_length c.slot_at-slot.ensures.slot))
