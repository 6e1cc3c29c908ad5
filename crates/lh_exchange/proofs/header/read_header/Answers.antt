use Rattle.std.proofs.Common.{◌≡◌, ◌+◌, ◌-◌, ◌∙◌, Ok, Err, ap, sym, length, arith}
use Rattle.lh_exchange.specs.DbHeader.{header_line}
use Rattle.lh_exchange.specs.declared.header.HeaderLine.TheVariants.{GoesOn, HeaderEnd}
use Rattle.lh_exchange.proofs.HeaderLines.{header_ends, header_faulty, header_goes_on, header_stops}
use Rattle.lh_exchange.proofs.header.read_header.Goals as goal

pub returns-in-Ok-HeaderEnd-clause-body : goal.returns-in-Ok-HeaderEnd-clause-body
returns-in-Ok-HeaderEnd-clause-body c =
    let most = length c.args.bytes.now + 3 - c.loop-text.line in
    let less = length c.args.bytes.now + 3 - (c.loop-text.line + 1) in
    let said : header_line c.loop-text.named c.in-Some.text.now ≡ Ok HeaderEnd = cc (c.in-Ok-HeaderEnd.ensures) in
    rw (
      c.loop-text.invariant.whole,
      header_ends most less c.loop-text.named c.loop-text.line c.loop-text.rest.now
          c.in-Some.text.now c.in-Some.behind.now (omega arith) c.in-Some.ensures.cut said,
    ) c.body_behind.ensures.body

pub returns-in-Err-clause-body : goal.returns-in-Err-clause-body
returns-in-Err-clause-body c =
    let most = length c.args.bytes.now + 3 - c.loop-text.line in
    let less = length c.args.bytes.now + 3 - (c.loop-text.line + 1) in
    let said : header_line c.loop-text.named c.in-Some.text.now ≡ Err c.in-Err.kind = cc (c.in-Err.ensures) in
    c.loop-text.invariant.whole
    ∙ (header_faulty most less c.loop-text.named c.loop-text.line c.loop-text.rest.now c.in-Some.text.now
    c.in-Some.behind.now c.in-Err.kind (omega arith) c.in-Some.ensures.cut said
    ∙ ap (λ fault. Err fault) (sym c.fault_at.ensures))

pub loop-text-preserved : goal.loop-text-preserved
loop-text-preserved c =
    let most = length c.args.bytes.now + 3 - c.loop-text.line in
    let less = length c.args.bytes.now + 3 - (c.loop-text.line + 1) in
    let said : header_line c.loop-text.named c.in-Some.text.now ≡ Ok (GoesOn c.in-Ok-GoesOn.layout) =
    cc (c.in-Ok-GoesOn.ensures) in
    record {
      whole =
          c.loop-text.invariant.whole
          ∙ header_goes_on most less c.loop-text.named c.in-Ok-GoesOn.layout c.loop-text.line c.loop-text.rest.now
          c.in-Some.text.now c.in-Some.behind.now (omega arith) c.in-Some.ensures.cut said;
      lines = omega (arith, c.in-Some.ensures.shorter);
    }

pub returns-clause-body : goal.returns-clause-body
returns-clause-body c =
    let most = length c.args.bytes.now + 3 - c.loop-text.line in
    let less = length c.args.bytes.now + 3 - (c.loop-text.line + 1) in
    c.loop-text.invariant.whole
    ∙ (header_stops most less c.loop-text.named c.loop-text.line c.loop-text.rest.now (omega arith)
    c.in_default.ensures.cut ∙ ap (λ fault. Err fault) (sym c.fault_at-2.ensures))
