use Rattle.std.proofs.Common.{◌≡◌, ap, ◌∙◌, arith}
use Rattle.lh_page.specs.PageFields.{used_of}
use Rattle.lh_image.specs.Layout.{page}
use Rattle.lh_image.specs.Plain.{keys_on}
use Rattle.lh_image.specs.Version.{format_of, version_of}
use Rattle.lh_image.proofs.Looking.Apart.{new_none, page_records_new, slot_new}
use Rattle.lh_image.proofs.checked.apart.are_new.Goals as goal

pub loop-place-init : goal.loop-place-init
loop-place-init c is = new_none (keys_on c.args.bytes.now c.args.before.now)

pub loop-place-preserved : goal.loop-place-preserved
loop-place-preserved c is =
    let bytes = c.args.bytes.now in
    let used : c.in-Some.entry.now.used ≡ used_of (page bytes c.args.number) =
    ap (λ e. e.used) c.in-Some.ensures.entry
    ∙ (is.good c.args.number c.in-Some.ensures.from c.in-Some.ensures.below).kept.used in
    slot_new (keys_on bytes c.args.before.now) (format_of (version_of bytes)) (page bytes c.args.number)
    c.loop-place.place (c.loop-place.invariant is)
    (c.is_new.ensures is (omega (arith, used)) c.if-not-is_new.false)

pub returns : goal.returns
returns c is _ =
    let bytes = c.args.bytes.now in
    let used : c.in-Some.entry.now.used ≡ used_of (page bytes c.args.number) =
    ap (λ e. e.used) c.in-Some.ensures.entry
    ∙ (is.good c.args.number c.in-Some.ensures.from c.in-Some.ensures.below).kept.used in
    page_records_new bytes (keys_on bytes c.args.before.now) c.args.number c.loop-place.place (omega (arith, used))
    (c.loop-place.invariant is)
