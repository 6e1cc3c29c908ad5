use Rattle.std.proofs.Common.{◌≡◌, ◌≤◌}
use Rattle.lhash_expect.specs.Parts.{times_at_first}
use Rattle.lhash_expect.proofs.parts.count_of.Given as goal

abbrev pub invariant-loop-place : goal.invariant-loop-place
invariant-loop-place l = (l.count ≡ times_at_first l.part l.bytes l.place) × (l.count ≤ l.place)
