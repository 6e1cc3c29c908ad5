use Rattle.lh_image.proofs.Looking.Steps.{page_size_is}
use Rattle.lh_image.proofs.indexed.first_byte.Goals as goal

pub slot_at-requires-clause-size : goal.slot_at-requires-clause-size
slot_at-requires-clause-size c =
    page_size_is c.args.version c.format-format.result _ c.in-Some.ensures.size c.format-format.ensures
