use Rattle.std.proofs.Common.{◌≡◌, ◌-◌, ◌^◌, take, length, min}
use Rattle.std.specs.Prelude.{sum_by}
use Rattle.lh_file.proofs.crew.acts_of.Given as goal

abbrev pub invariant-loop-hand : goal.invariant-loop-hand
invariant-loop-hand l = l.acts ≡ min (sum_by (λ h. length h.acts) (take l.hand-index l.hands)) (2 ^ 64 - 1)
