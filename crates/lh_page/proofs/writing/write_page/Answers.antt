use Rattle.std.proofs.Common.{◌≡◌, ◌<◌, ◌∙◌, length, arith}
use Rattle.lh_page.proofs.WrittenPages.{written_none, written_more, written_all}
use Rattle.lh_page.proofs.writing.write_page.Goals as goal

pub loop-place-init : goal.loop-place-init
loop-place-init c =
    written_none c.args.format _ _ c.args.page.now c.requires.blank (c.copy_from_slice.ensures.after ∙ c.requires.head)

pub loop-place-preserved : goal.loop-place-preserved
loop-place-preserved c =
    let low : c.loop-place.place < c.args.format.slots = omega (arith, c.requires.fits.few) in
    written_more c.args.format _ _ c.args.page.now c.at.result c.loop-place.place low c.at.ensures
    c.loop-place.invariant c.write_at.ensures

pub returns : goal.returns
returns c =
    let all : c.loop-place.place ≡ length c.args.page.now.pairs = omega arith in
    written_all c.args.format c.loop-place.bytes c.args.page.now (rw all at c.loop-place.invariant)
