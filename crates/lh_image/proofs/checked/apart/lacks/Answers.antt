use Rattle.std.proofs.Common.{List, ap, not, subst, ◌∙◌}
use Rattle.lh_page.specs.declared.pair.Pair.{Pair}
use Rattle.lh_page.specs.Records.{keys_of}
use Rattle.lh_image.specs.Plain.{IsNoneOf}
use Rattle.lh_image.proofs.Looking.Apart.{good_here, no_slot_none, records_here}
use Rattle.lh_image.proofs.Looking.Steps.{page_size_is}
use Rattle.lh_image.proofs.checked.apart.lacks.Goals as goal

pub place_in-requires-clause-size : goal.place_in-requires-clause-size
place_in-requires-clause-size c =
    page_size_is c.args.version c.format.result _ c.in-Some-page_in.ensures.size c.format.ensures

pub returns : goal.returns
returns c is mark none =
    let pe = c.in-Some-page_in.ensures.page is.own in
    let good =
    good_here c.args.bytes.now c.args.version c.args.index.now c.args.number c.format.result c.in-Some-page_in.page.now
    c.in-Some.entry.now is c.in-Some.ensures.from c.in-Some.ensures.below c.format.ensures pe c.in-Some.ensures.entry in
    subst (λ (rs : List Pair). IsNoneOf c.args.key.now (keys_of rs))
    (records_here c.args.bytes.now c.args.version c.args.index.now c.args.number c.format.result
    c.in-Some-page_in.page.now is c.format.ensures pe)
    (no_slot_none c.format.result c.in-Some-page_in.page.now c.args.key.now _ c.place_in.result
    (c.place_in.ensures.found good mark) (c.is_none.ensures ∙ ap not none))
