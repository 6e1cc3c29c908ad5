use Rattle.std.proofs.Common.{◌≡◌, take}
use Rattle.std.specs.List.{filter}
use Rattle.lh_page.proofs.division.gone_of.Given as goal

abbrev pub invariant-loop-place : goal.invariant-loop-place
invariant-loop-place g l = l.gone ≡ filter (λ p. g.S.KeySet.member l.keys p.key) (take l.place l.pairs)
