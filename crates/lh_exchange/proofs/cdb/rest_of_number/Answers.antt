use Rattle.std.proofs.Common.{◌+◌, ◌∙◌, Ok, ap, sym, arith}
use Rattle.lh_exchange.proofs.LineCuts.{part_from}
use Rattle.lh_exchange.proofs.Numbers.{ends_early, goes_on, stops_at_mark, stops_elsewhere}
use Rattle.lh_exchange.proofs.cdb.rest_of_number.Goals as goal

pub returns-then-byte-mark-clause-number : goal.returns-then-byte-mark-clause-number
returns-then-byte-mark-clause-number c =
    c.loop-place.invariant
    ∙ (stops_at_mark c.args.mark c.loop-place.number c.args.bytes.now c.loop-place.place c.loop-place-test.true
    c.if-byte-mark.true
    ∙ ap (λ behind. Ok (c.loop-place.number, behind)) (sym (part_from (c.loop-place.place + 1) c.args.bytes.now)))

pub returns-in_default-clause-number : goal.returns-in_default-clause-number
returns-in_default-clause-number c =
    c.loop-place.invariant
    ∙ stops_elsewhere c.args.mark c.loop-place.number c.args.bytes.now c.loop-place.place c.loop-place-test.true
    c.if-byte-mark.false c.in_default.ensures

pub loop-place-preserved : goal.loop-place-preserved
loop-place-preserved c =
    c.loop-place.invariant
    ∙ goes_on c.args.mark c.loop-place.number c.in-Some.longer c.args.bytes.now c.loop-place.place
    c.loop-place-test.true c.if-byte-mark.false c.in-Some.ensures

pub returns-clause-number : goal.returns-clause-number
returns-clause-number c =
    c.loop-place.invariant
    ∙ ends_early c.args.mark c.loop-place.number c.args.bytes.now c.loop-place.place (omega arith)
