use Rattle.std.proofs.Common.{◌≡◌, ℕ, ◌<◌, get_or}
use Rattle.lh_settling.specs.Acts.{stamps_of}
use Rattle.lh_settling.proofs.order.in_step.Given as goal

abbrev pub invariant-loop-place : goal.invariant-loop-place
invariant-loop-place l = (p : ℕ) → p < l.place → get_or (stamps_of l.history) p 0 ≡ p
