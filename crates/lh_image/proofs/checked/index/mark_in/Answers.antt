use Rattle.lh_image.proofs.Looking.Slots.{good_lengths}
use Rattle.lh_image.proofs.checked.index.mark_in.Goals as goal

pub key_in-requires-clause-key : goal.key_in-requires-clause-key
key_in-requires-clause-key c = rw c.slot_at.ensures.slot (good_lengths c.args.format _ c.requires.good).0
