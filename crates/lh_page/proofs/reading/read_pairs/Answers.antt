use Rattle.std.proofs.Common.{◌≡◌, ◌<◌, ap, sym, arith}
use Rattle.std.specs.Option.{option_map}
use Rattle.lh_page.specs.declared.fault.PageFault.TheVariants.{Slot}
use Rattle.lh_page.specs.PageFields.{used_of}
use Rattle.lh_page.proofs.ReadPages.{read_more, bad_slot-read, bad_slot-filled, bad_slot-none, pairs_of-read}
use Rattle.lh_page.proofs.reading.read_pairs.Goals as goal

pub push-requires : goal.push-requires
push-requires c = omega (arith, c.loop-place.invariant.long)

pub loop-place-preserved : goal.loop-place-preserved
loop-place-preserved c =
    let l = c.loop-place in
    let used : l.place < used_of c.args.bytes.now = omega arith in
    rw c.push.ensures
    (read_more c.args.format c.args.bytes.now c.slot_at.result.now l.pairs l.place c.in-Some.pair used
    c.slot_at.ensures.slot c.in-Some.ensures l.invariant)

pub returns-in-None-clause-fault : goal.returns-in-None-clause-fault
returns-in-None-clause-fault c =
    let l = c.loop-place in
    let low : l.place < c.args.format.slots = omega arith in
    let used : l.place < used_of c.args.bytes.now = omega arith in
    ap (option_map Slot)
    (sym
    (bad_slot-read c.args.format c.args.bytes.now c.slot_at.result.now l.pairs l.place low used
    c.slot_at.ensures.slot c.in-None.ensures l.invariant))

pub returns-in-Some-first_filled-clause-fault : goal.returns-in-Some-first_filled-clause-fault
returns-in-Some-first_filled-clause-fault c =
    let l = c.loop-place in
    let all : l.place ≡ c.args.used = omega arith in
    ap (option_map Slot)
    (sym
    (bad_slot-filled c.args.format c.args.bytes.now l.pairs c.args.used c.in-Some-first_filled.place
    c.requires.used c.in-Some-first_filled.ensures.found (rw all at l.invariant)))

pub returns-in-None-first_filled-clause-pairs : goal.returns-in-None-first_filled-clause-pairs
returns-in-None-first_filled-clause-pairs c =
    let l = c.loop-place in
    let all : l.place ≡ c.args.used = omega arith in
    pairs_of-read c.args.format c.args.bytes.now l.pairs c.args.used c.requires.used (rw all at l.invariant)

pub returns-in-None-first_filled-clause-fault : goal.returns-in-None-first_filled-clause-fault
returns-in-None-first_filled-clause-fault c =
    let l = c.loop-place in
    let all : l.place ≡ c.args.used = omega arith in
    ap (option_map Slot)
    (sym
    (bad_slot-none c.args.format c.args.bytes.now l.pairs c.args.used c.requires.used
    c.in-None-first_filled.ensures.absent (rw all at l.invariant)))
