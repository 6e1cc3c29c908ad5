use Rattle.std.proofs.Common.{refl, subst, arith}
use Rattle.std.proofs.lemmas.List.{take_all}
use Rattle.lh_image.specs.Plain.{IsNoneOf, keys_on}
use Rattle.lh_image.proofs.Looking.Apart.{none_on_more}
use Rattle.lh_image.proofs.checked.apart.lack.Goals as goal

pub loop-page-preserved : goal.loop-page-preserved
loop-page-preserved c is mark =
    none_on_more c.args.bytes.now c.args.key.now c.args.pages.now c.loop-page.page-index _ (omega arith) refl
    (c.loop-page.invariant is mark) (c.lacks.ensures is mark c.if-not-lacks.false)

pub returns : goal.returns
returns c is mark _ =
    subst (λ xs. IsNoneOf c.args.key.now (keys_on c.args.bytes.now xs))
    (take_all c.loop-page.page-index c.args.pages.now (omega arith)) (c.loop-page.invariant is mark)
