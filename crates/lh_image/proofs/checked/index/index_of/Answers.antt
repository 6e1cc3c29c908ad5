use Rattle.std.proofs.Common.{arith}
use Rattle.lh_image.proofs.checked.index.index_of.Goals as goal

pub returns : goal.returns
returns c = record {
  used = c.used_of-used.ensures;
  next = c.next_of.ensures;
  marks = λ i low. c.loop-place.invariant.marks i (omega (arith, c.used_of-used.ensures));
}
