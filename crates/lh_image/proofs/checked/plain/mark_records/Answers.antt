use Rattle.std.proofs.Common.{◌≡◌, ◌-◌, length, refl, sym, ◌∙◌, subst, arith}
use Rattle.lh_image.specs.Misplaced.{is_home}
use Rattle.lh_image.specs.Plain.{HasMarks}
use Rattle.lh_image.proofs.Looking.Slots.{good_lengths, rest_seen}
use Rattle.lh_image.proofs.checked.plain.mark_records.Goals as goal

pub key_in-requires-clause-key : goal.key_in-requires-clause-key
key_in-requires-clause-key c =
    (good_lengths c.args.format c.slot_at-slot.result.now (sym c.is_bad_record.ensures ∙ c.if-is_bad_record.false)).0

pub returns-clause-marked : goal.returns-clause-marked
returns-clause-marked c _ =
    let at : c.loop-place.place ≡ c.args.used = omega arith in
    subst (λ n. HasMarks c.args.format c.args.page.now (is_home c.args.root.now c.args.bucket) n c.loop-place.marks) at
    c.loop-place.invariant

pub returns-clause-clear : goal.returns-clause-clear
returns-clause-clear c all =
    sym (rest_seen c.args.format c.args.page.now c.args.used c.slot_start.result
    (length c.args.page.now - c.slot_start.result) c.is_zero.result c.slot_start.ensures refl c.is_zero.ensures) ∙ all
