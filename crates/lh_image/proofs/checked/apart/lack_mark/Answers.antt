use Rattle.std.proofs.Common.{refl, subst, arith}
use Rattle.std.proofs.lemmas.List.{take_all}
use Rattle.lh_image.specs.Plain.{IsNoneOf, keys_on}
use Rattle.lh_image.proofs.Looking.Apart.{none_on_more, page_unmarked}
use Rattle.lh_image.proofs.checked.apart.lack_mark.Goals as goal

pub loop-page-preserved : goal.loop-page-preserved
loop-page-preserved c bytes version key is mark =
    none_on_more bytes key c.args.pages.now c.loop-page.page-index _ (omega arith) refl
    (c.loop-page.invariant bytes version key is mark)
    (page_unmarked bytes version c.args.index.now key _ c.in-Some.entry.now.used c.in-Some.entry.now is
    c.in-Some.ensures.from c.in-Some.ensures.below c.in-Some.ensures.entry refl
    (λ f pg good few within. c.lacks_mark.ensures f pg key good few within mark c.if-not-lacks_mark.false))

pub returns : goal.returns
returns c bytes version key is mark _ =
    subst (λ xs. IsNoneOf key (keys_on bytes xs)) (take_all c.loop-page.page-index c.args.pages.now (omega arith))
    (c.loop-page.invariant bytes version key is mark)
