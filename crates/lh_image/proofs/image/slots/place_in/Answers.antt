use Rattle.std.proofs.Common.{◌≡◌, ◌+◌, ◌-◌, ◌||◌, true, not, length, refl, sym, ap, ◌∙◌, subst, arith}
use Rattle.std.specs.List.{list_any}
use Rattle.std.specs.Option.{is_some}
use Rattle.lh_page.specs.declared.pair.Pair.{Pair}
use Rattle.lh_page.specs.PageFields.{bad_slot, is_bad_record}
use Rattle.lh_page.specs.PageTable.{slot}
use Rattle.lh_image.specs.declared.fault.ImageFault.TheVariants.{Slot, Misfit}
use Rattle.lh_image.specs.LookUp.{IsScannedTo, IsSlotOf}
use Rattle.lh_image.specs.Misplaced.{is_home}
use Rattle.lh_image.proofs.Looking.Scans.{first_pairs-all, scanned_none, scanned_more}
use Rattle.lh_image.proofs.Looking.Slots.{all_good, bad_slot_there, bad_used_slot, good_lengths, rest_bad, rest_seen}
use Rattle.lh_image.proofs.Looking.Slots.{row_slot, row_misfit, row_none}
use Rattle.lh_image.proofs.image.slots.place_in.Goals as goal

pub loop-place-init : goal.loop-place-init
loop-place-init c = scanned_none c.args.format c.args.page.now c.args.key.now (is_home c.args.root.now c.args.bucket)

pub returns-then-is_bad_record-clause-fault : goal.returns-then-is_bad_record-clause-fault
returns-then-is_bad_record-clause-fault c =
    let f = c.args.format in
    let bytes = c.args.page.now in
    let n = c.loop-place.place in
    let bad : is_bad_record f (slot f bytes n) ≡ true =
    ap (is_bad_record f) (sym c.slot_at-slot.ensures.slot) ∙ sym c.is_bad_record.ensures
    ∙ c.if-is_bad_record.true in
    row_slot (is_some (bad_slot f bytes)) _ (Slot c.args.number) (Misfit c.args.number)
    (bad_slot_there f bytes n (omega arith) (bad_used_slot f bytes n (omega arith) ∙ bad))

pub key_in-own-requires-clause-key : goal.key_in-own-requires-clause-key
key_in-own-requires-clause-key c =
    (good_lengths c.args.format c.slot_at-slot.result.now (sym c.is_bad_record.ensures ∙ c.if-is_bad_record.false)).0

pub loop-place-preserved : goal.loop-place-preserved
loop-place-preserved c =
    let good = sym c.is_bad_record.ensures ∙ c.if-is_bad_record.false in
    subst
    (λ found.
    IsScannedTo c.args.format c.args.page.now c.args.key.now (is_home c.args.root.now c.args.bucket)
    (c.loop-place.place + 1) found (c.loop-place.strange || c.is_away-strange.result))
    (sym c.met-place_found.ensures)
    (scanned_more c.args.format c.args.page.now c.args.key.now c.slot_at-slot.result.now c.key_in-own.result.now
    (is_home c.args.root.now c.args.bucket) c.loop-place.place c.loop-place.place_found c.loop-place.strange
    c.is_away-strange.result c.eq-is_sought.result
    (omega arith) c.slot_at-slot.ensures.slot good (good_lengths c.args.format c.slot_at-slot.result.now good).1
    c.key_in-own.ensures
    (c.eq-is_sought.ensures ∙ ap (Rattle.std.specs.Str.bytes_eq c.key_in-own.result.now) c.bytes.ensures.value)
    c.is_away-strange.ensures c.loop-place.invariant)

pub returns-then-not-is_zero-clause-fault : goal.returns-then-not-is_zero-clause-fault
returns-then-not-is_zero-clause-fault c =
    let f = c.args.format in
    let bytes = c.args.page.now in
    let seen =
    rest_seen f bytes c.args.used c.slot_start.result (length bytes - c.slot_start.result) c.is_zero.result
    c.slot_start.ensures refl c.is_zero.ensures in
    row_slot (is_some (bad_slot f bytes)) _ (Slot c.args.number) (Misfit c.args.number)
    (rest_bad f bytes c.args.used c.requires.size c.requires.few c.requires.used (sym seen ∙ c.if-not-is_zero.true))

pub returns-then-strange-clause-fault : goal.returns-then-strange-clause-fault
returns-then-strange-clause-fault c =
    let f = c.args.format in
    let bytes = c.args.page.now in
    let at : c.loop-place.place ≡ c.args.used = omega arith in
    let h =
    subst
    (λ n.
    IsScannedTo f bytes c.args.key.now (is_home c.args.root.now c.args.bucket) n c.loop-place.place_found
    c.loop-place.strange) at c.loop-place.invariant in
    let seen =
    rest_seen f bytes c.args.used c.slot_start.result (length bytes - c.slot_start.result) c.is_zero.result
    c.slot_start.ensures refl c.is_zero.ensures in
    row_misfit (is_some (bad_slot f bytes)) _ (Slot c.args.number) (Misfit c.args.number)
    (ap is_some (all_good f bytes c.args.used c.requires.used h.good (sym seen ∙ c.if-not-is_zero.false)))
    (ap (list_any (λ (r : Pair). not (is_home c.args.root.now c.args.bucket r.key)))
    (sym (first_pairs-all f bytes c.args.used c.requires.used)) ∙ sym h.strangers ∙ c.if-strange.true)

pub returns-clause-fault : goal.returns-clause-fault
returns-clause-fault c =
    let f = c.args.format in
    let bytes = c.args.page.now in
    let at : c.loop-place.place ≡ c.args.used = omega arith in
    let h =
    subst
    (λ n.
    IsScannedTo f bytes c.args.key.now (is_home c.args.root.now c.args.bucket) n c.loop-place.place_found
    c.loop-place.strange) at c.loop-place.invariant in
    let seen =
    rest_seen f bytes c.args.used c.slot_start.result (length bytes - c.slot_start.result) c.is_zero.result
    c.slot_start.ensures refl c.is_zero.ensures in
    row_none (is_some (bad_slot f bytes)) _ (Slot c.args.number) (Misfit c.args.number)
    (ap is_some (all_good f bytes c.args.used c.requires.used h.good (sym seen ∙ c.if-not-is_zero.false)))
    (ap (list_any (λ (r : Pair). not (is_home c.args.root.now c.args.bucket r.key)))
    (sym (first_pairs-all f bytes c.args.used c.requires.used)) ∙ sym h.strangers ∙ c.if-strange.false)

pub returns-clause-place : goal.returns-clause-place
returns-clause-place c =
    let f = c.args.format in
    let bytes = c.args.page.now in
    let at : c.loop-place.place ≡ c.args.used = omega arith in
    let h =
    subst
    (λ n.
    IsScannedTo f bytes c.args.key.now (is_home c.args.root.now c.args.bucket) n c.loop-place.place_found
    c.loop-place.strange) at c.loop-place.invariant in
    subst (λ xs. IsSlotOf f bytes c.args.key.now xs c.loop-place.place_found)
    (first_pairs-all f bytes c.args.used c.requires.used) h.place
