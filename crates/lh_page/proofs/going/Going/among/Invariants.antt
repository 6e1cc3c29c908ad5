use Rattle.lh_page.proofs.GoingBits.{AreBitsBelow}
use Rattle.lh_page.proofs.going.Going.among.Given as goal

abbrev pub invariant-loop-place : goal.invariant-loop-place
invariant-loop-place g l = AreBitsBelow (g.S.KeySet.member l.keys) l.bits l.pairs l.place
