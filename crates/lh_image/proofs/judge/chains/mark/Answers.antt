use Rattle.std.proofs.Common.{get_or, refl, ◌∙◌, arith, true, false, length-set}
use Rattle.lh_image.proofs.Judging.Markings.{mark_none, mark_more, mark_skip}
use Rattle.lh_image.proofs.judge.chains.mark.Goals.{then-page-marks, else-page-marks}
use Rattle.lh_image.proofs.judge.chains.mark.Goals as goal

pub loop-page-init : goal.loop-page-init
loop-page-init c = record { size = refl; marked = λ p l. mark_none (get_or c.args.marks.now p false) p }

pub loop-page-preserved : goal.loop-page-preserved
loop-page-preserved c = elim c.if-page-marks.branch [
  | then-page-marks w ↦ rw w.marks-is (record {
    size =
        length-set c.loop-page.marks (get_or c.args.pages.now c.loop-page.page-index 0) true
        ∙ c.loop-page.invariant.size;
    marked =
        λ p l.
        mark_more c.args.marks.now c.loop-page.marks c.args.pages.now c.loop-page.page-index
        (get_or c.args.pages.now c.loop-page.page-index 0) p (omega arith) refl w.if-page-marks.true
        (c.loop-page.invariant.marked p l);
  })
  | else-page-marks w ↦ rw w.marks-is (record {
    size = c.loop-page.invariant.size;
    marked =
        λ p l.
        mark_skip c.args.marks.now c.loop-page.marks c.args.pages.now c.loop-page.page-index
        (get_or c.args.pages.now c.loop-page.page-index 0) p (omega arith) refl (omega (arith, w.if-page-marks.false))
        (c.loop-page.invariant.marked p l);
  })
]
