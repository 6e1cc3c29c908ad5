use Rattle.std.proofs.Common.{◌<◌, ◌≤◌, length, sym, ap, subst, ◌∙◌}
use Rattle.lh_page.specs.declared.format.Format.{Format}
use Rattle.lh_page.specs.PageFields.{pair_of}
use Rattle.lh_page.specs.PageTable.{slot}
use Rattle.lh_image.specs.Layout.{page}
use Rattle.lh_image.proofs.Looking.Steps.{format_is, page_size_is}
use Rattle.lh_image.proofs.image.walk.value_at.Goals as goal

pub slot_at-requires-clause-size : goal.slot_at-requires-clause-size
slot_at-requires-clause-size c =
    page_size_is c.args.header.now.version c.format-format.result _ c.page_at.ensures.size c.format-format.ensures

pub slot_at-requires-clause-within : goal.slot_at-requires-clause-within
slot_at-requires-clause-within c =
    subst (λ (f : Format). c.args.place < f.slots)
    (sym
    (format_is c.args.bytes.now c.args.header.now c.args.root.now c.requires.opened c.format-format.result
    c.format-format.ensures)) c.requires.slot

pub value_in-requires-clause-value : goal.value_in-requires-clause-value
value_in-requires-clause-value c =
    let f =
    format_is c.args.bytes.now c.args.header.now c.args.root.now c.requires.opened c.format-format.result
    c.format-format.ensures in
    rw (c.slot_at.ensures.slot, c.page_at.ensures.page, f) c.requires.short

pub returns-clause-value : goal.returns-clause-value
returns-clause-value c =
    let f =
    format_is c.args.bytes.now c.args.header.now c.args.root.now c.requires.opened c.format-format.result
    c.format-format.ensures in
    c.value_in.ensures.value
    ∙ ap (λ s. (pair_of c.format-format.result s).value)
    (c.slot_at.ensures.slot ∙ ap (λ b. slot c.format-format.result b c.args.place) c.page_at.ensures.page)
    ∙ ap (λ (g : Format). (pair_of g (slot g (page c.args.bytes.now c.args.number) c.args.place)).value) f

pub returns-clause-short : goal.returns-clause-short
returns-clause-short c =
    let f =
    format_is c.args.bytes.now c.args.header.now c.args.root.now c.requires.opened c.format-format.result
    c.format-format.ensures in
    subst (λ (g : Format). length c.value_in.result.now ≤ g.value) f c.value_in.ensures.short
