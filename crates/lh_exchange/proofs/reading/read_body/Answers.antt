use Rattle.std.proofs.Common.{◌≡◌, ◌+◌, ◌-◌, ◌∷◌, [], ◌++◌, ◌∙◌, suc, Err, ap, sym, length, vec_len, arith}
use Rattle.lh_exchange.specs.Exchanged.{record_fault}
use Rattle.lh_exchange.proofs.BodyRecords.{record_faulty, record_read, records_end}
use Rattle.lh_exchange.proofs.reading.read_body.Goals as goal

pub loop-pair-preserved : goal.loop-pair-preserved
loop-pair-preserved c =
    let before = vec_len c.loop-pair.pairs in
    let most = suc (length c.args.bytes.now) - before in
    let less = suc (length c.args.bytes.now) - (before + 1) in
    let more : vec_len c.push_reserved.new.self ≡ vec_len c.loop-pair.pairs + 1 = omega arith in
    let found = rw c.in-Ok-Some.field-0-is at c.in-Ok-Some.ensures.next in
    let shorter = rw c.in-Ok-Some.field-0-is at c.in-Ok-Some.ensures.shorter in
    record {
      whole =
          rw more
          (record_read _ c.args.layout c.args.line most less before c.loop-pair.pairs.items
          c.push_reserved.new.self.items c.in-Ok-Some.pair c.loop-pair.rest.now c.in-Ok-Some.behind.now
          c.loop-pair.invariant.whole (omega arith) found
          (c.push_reserved.ensures.items ∙ ap (λ xs. xs ++ c.in-Ok-Some.pair ∷ []) c.reserve.ensures.items));
      few = omega arith;
    }

pub returns-in-Ok-None : goal.returns-in-Ok-None
returns-in-Ok-None c =
    let before = vec_len c.loop-pair.pairs in
    let most = suc (length c.args.bytes.now) - before in
    let less = suc (length c.args.bytes.now) - (before + 1) in
    let found = rw c.in-Ok-None.field-0-is at c.in-Ok-None.ensures.next in
    records_end _ c.args.layout c.args.line most less before c.loop-pair.pairs.items c.loop-pair.rest.now
    c.loop-pair.invariant.whole (omega arith) found

pub returns-in-Err : goal.returns-in-Err
returns-in-Err c =
    let before = vec_len c.loop-pair.pairs in
    let most = suc (length c.args.bytes.now) - before in
    let less = suc (length c.args.bytes.now) - (before + 1) in
    record_faulty _ c.args.layout c.args.line most less before c.loop-pair.pairs.items c.loop-pair.rest.now
    c.in-Err.kind c.loop-pair.invariant.whole (omega arith) c.in-Err.ensures.next
    ∙ ap (λ fault. Err fault)
    (sym (c.fault_behind.ensures ∙ ap (λ n. record_fault c.args.line n c.in-Err.kind) c.len.ensures))
