use Rattle.std.proofs.Common.{sym, ◌∙◌}
use Rattle.lh_image.proofs.Looking.Plain.{few_used, plain_is}
use Rattle.lh_image.proofs.Looking.Steps.{page_size_is}
use Rattle.lh_image.proofs.checked.plain.entry_of.Goals as goal

pub mark_records-requires-clause-size : goal.mark_records-requires-clause-size
mark_records-requires-clause-size c =
    page_size_is c.args.header.now.version c.format-format.result _ c.page_at-page.ensures.size c.format-format.ensures

pub mark_records-requires-clause-few : goal.mark_records-requires-clause-few
mark_records-requires-clause-few c =
    few_used c.args.bytes.now c.args.header.now c.args.root.now c.requires.opened c.args.number c.requires.from
    c.args.head.now c.requires.head c.format-format.result c.page_at-page.result.now c.format-format.ensures
    c.page_at-page.ensures.page c.in_default.ensures

pub returns : goal.returns
returns c =
    plain_is c.args.bytes.now c.args.header.now c.args.root.now c.requires.opened c.args.number c.requires.from
    c.args.head.now c.requires.head c.format-format.result c.page_at-page.result.now c.format-format.ensures
    c.page_at-page.ensures.page c.in_default.ensures (sym c.if-names_bad_next.false ∙ c.names_bad_next.ensures)
    c.mark_records.new.marks (c.mark_records.ensures.marked c.if-not-mark_records.false)
    (c.mark_records.ensures.clear c.if-not-mark_records.false)
