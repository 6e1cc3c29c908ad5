use Rattle.std.proofs.Common.{arith}
use Rattle.lh_page.proofs.SlotText.{put_parts}
use Rattle.lh_page.proofs.slot.write_slot.Goals as goal

pub returns-clause-text : goal.returns-clause-text
returns-clause-text c =
    let p = c.args.pair.now in
    rw (
      c.copy_from_slice.ensures.after,
      c.copy_from_slice-2.ensures.after,
      c.bytes-key.ensures.value,
      c.bytes-value.ensures.value,
    )
    (put_parts c.args.bytes.now p.key p.value c.args.format.key c.args.format.value _ _ c.requires.blank
    c.requires.fits.key c.requires.fits.value (omega arith) (omega arith))
