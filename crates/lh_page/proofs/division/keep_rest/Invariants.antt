use Rattle.std.proofs.Common.{◌≡◌, not, length}
use Rattle.lh_page.proofs.Moving.{IsMoved}
use Rattle.lh_page.proofs.division.keep_rest.Given as goal

abbrev pub invariant-loop-place : goal.invariant-loop-place
invariant-loop-place g l = record {
  moved : IsMoved (λ p. not (g.S.KeySet.member l.keys p.key)) l.fn.pairs l.pairs l.marks l.kept l.place;
  room : length l.marks ≡ length l.fn.marks;
}
