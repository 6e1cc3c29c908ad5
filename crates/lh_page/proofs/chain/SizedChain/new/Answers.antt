use Rattle.std.proofs.Common.{refl, ap, length, arith}
use Rattle.lh_page.proofs.Distinct.{distinct_none}
use Rattle.lh_page.proofs.chain.SizedChain.new.Goals as goal

pub invariant_of-result : goal.invariant_of-result
invariant_of-result g c = (
  c.requires.room,
  record {
    list = record { capacity = c.requires.capacity; distinct = distinct_none c.new.result c.new.ensures };
    room = refl;
    marked = λ i low below. absurd (omega (arith, ap length c.new.ensures));
  },
)
