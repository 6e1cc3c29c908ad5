use Rattle.std.proofs.Common.{sym, ap, ◌∙◌, arith}
use Rattle.std.proofs.lemmas.Result.{err_from_is_err_and}
use Rattle.lh_page.specs.declared.head.PageHead.{PageHead}
use Rattle.lh_page.specs.PageFields.{head_of}
use Rattle.lh_image.specs.Layout.{view_of}
use Rattle.lh_image.specs.LookUp.{home_of}
use Rattle.lh_image.proofs.Looking.Steps.{fault_behind_head, fault_by_head, format_is, head_is, home_is, page_size_is}
use Rattle.lh_image.proofs.Looking.Steps.{rest_next, rest_slots, slot_is, slots_are, used_fits}
use Rattle.lh_image.proofs.image.walk.look_at.Goals as goal

pub fault_of_head-requires-clause-head : goal.fault_of_head-requires-clause-head
fault_of_head-requires-clause-head c =
    c.head_of-head.ensures ∙ ap head_of c.page_at-page.ensures.page
    ∙ head_is c.args.bytes.now c.args.number c.requires.from

pub names_bad_next-requires-clause-head : goal.names_bad_next-requires-clause-head
names_bad_next-requires-clause-head c =
    c.head_of-head.ensures ∙ ap head_of c.page_at-page.ensures.page
    ∙ head_is c.args.bytes.now c.args.number c.requires.from

pub returns-in-Some : goal.returns-in-Some
returns-in-Some c =
    fault_by_head (view_of c.args.bytes.now) (home_of (view_of c.args.bytes.now) c.args.key.now) c.args.number
    c.in-Some.fault c.in-Some.ensures

pub returns-then-names_bad_next : goal.returns-then-names_bad_next
returns-then-names_bad_next c =
    let v = view_of c.args.bytes.now in
    let i = home_of v c.args.key.now in
    fault_behind_head v i c.args.number c.in_default.ensures
    ∙ rest_next v i c.args.number (sym c.if-names_bad_next.true ∙ c.names_bad_next.ensures)

pub place_in-requires-clause-size : goal.place_in-requires-clause-size
place_in-requires-clause-size c =
    page_size_is c.args.header.now.version c.format-format.result _ c.page_at-page.ensures.size c.format-format.ensures

pub place_in-requires-clause-few : goal.place_in-requires-clause-few
place_in-requires-clause-few c =
    let e =
    ap (λ (h : PageHead). h.used)
    (c.head_of-head.ensures ∙ ap head_of c.page_at-page.ensures.page
    ∙ head_is c.args.bytes.now c.args.number c.requires.from) in
    omega (
      arith,
      e,
      used_fits c.args.bytes.now c.args.header.now c.args.root.now c.requires.opened c.args.number
          c.format-format.result c.in_default.ensures c.format-format.ensures,
    )

pub place_in-requires-clause-home : goal.place_in-requires-clause-home
place_in-requires-clause-home c =
    home_is c.args.bytes.now c.args.header.now c.args.root.now c.requires.opened c.args.key.now c.args.home
    c.requires.home

pub returns-in_err-place : goal.returns-in_err-place
returns-in_err-place c =
    let v = view_of c.args.bytes.now in
    let i = home_of v c.args.key.now in
    let p = err_from_is_err_and c.from_residual.result c.from_residual.ensures.1 in
    let f =
    format_is c.args.bytes.now c.args.header.now c.args.root.now c.requires.opened c.format-format.result
    c.format-format.ensures in
    let e =
    slots_are c.args.bytes.now c.args.header.now c.args.root.now c.requires.opened c.args.home c.args.number
    c.format-format.result c.page_at-page.result.now f c.page_at-page.ensures.page in
    rw (p.1, p.2)
    (fault_behind_head v i c.args.number c.in_default.ensures
    ∙ rest_slots v i c.args.number (sym c.if-names_bad_next.false ∙ c.names_bad_next.ensures)
    ∙ rw (← c.requires.home) (sym (c.in_err-place.ensures.fault ∙ e)))

pub returns : goal.returns
returns c =
    let v = view_of c.args.bytes.now in
    let i = home_of v c.args.key.now in
    let f =
    format_is c.args.bytes.now c.args.header.now c.args.root.now c.requires.opened c.format-format.result
    c.format-format.ensures in
    let e =
    slots_are c.args.bytes.now c.args.header.now c.args.root.now c.requires.opened c.args.home c.args.number
    c.format-format.result c.page_at-page.result.now f c.page_at-page.ensures.page in (
      fault_behind_head v i c.args.number c.in_default.ensures
          ∙ rest_slots v i c.args.number (sym c.if-names_bad_next.false ∙ c.names_bad_next.ensures)
          ∙ rw (← c.requires.home) (sym (c.in_ok-place.ensures.fault ∙ e)),
      ap (λ (h : PageHead). h.next)
          (c.head_of-head.ensures ∙ ap head_of c.page_at-page.ensures.page
          ∙ head_is c.args.bytes.now c.args.number c.requires.from),
      slot_is c.args.bytes.now c.args.key.now c.args.number c.format-format.result c.page_at-page.result.now
          c.in_ok-place.place f c.page_at-page.ensures.page c.in_ok-place.ensures.place,
    )
