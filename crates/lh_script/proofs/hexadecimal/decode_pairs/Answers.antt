use Rattle.std.proofs.Common.{◌≡◌, None, Some, take, arith, ℕ}
use Rattle.std.proofs.Math.ListN.{length-set}
use Rattle.std.proofs.lemmas.Nat.{le_or_l, le_or_r}
use Rattle.lh_script.specs.Hexadecimal.{pairs}
use Rattle.lh_script.proofs.Pairs.{front_step, front_breaks, front_whole, marks_break, marks_decide}
use Rattle.lh_script.proofs.hexadecimal.decode_pairs.Goals as goal

pub loop-byte-preserved : goal.loop-byte-preserved
loop-byte-preserved c =
    let marks = c.loop-byte.marks in
    let mark = c.first_byte-value.result.1 in
    record {
      good =
          λ m.
          front_step c.args.word.now c.loop-byte.out c.loop-byte.rest.now c.first_byte-value.result.2.now
          c.loop-byte.byte-index c.first_byte-value.result.0 (omega arith)
          (c.loop-byte.invariant.good (omega (arith, le_or_l marks mark)))
          (c.first_byte-value.ensures.good (omega (arith, le_or_r marks mark)));
      bad = λ m. marks_break marks mark (pairs c.args.word.now ≡ None) m c.loop-byte.invariant.bad
          (λ few many.
          front_breaks c.args.word.now (take c.loop-byte.byte-index c.loop-byte.out) c.loop-byte.rest.now
          (c.loop-byte.invariant.good few) (c.first_byte-value.ensures.bad many));
      left = omega (arith, length-set {A = ℕ});
    }

pub returns : goal.returns
returns c =
    marks_decide c.loop-byte.marks (pairs c.args.word.now ≡ Some c.loop-byte.out) (pairs c.args.word.now ≡ None)
    (λ few.
    front_whole c.args.word.now c.loop-byte.out c.loop-byte.rest.now c.loop-byte.byte-index
    (c.loop-byte.invariant.good few) (omega arith) (omega arith))
    c.loop-byte.invariant.bad
