use Rattle.std.proofs.Common.{ℕ, ◌<◌}
use Rattle.lh_file.specs.Buckets.Rooms.{FitsAt}
use Rattle.lh_file.proofs.room.misfit.Given as goal

abbrev pub invariant-loop-place : goal.invariant-loop-place
invariant-loop-place g l = (p : ℕ) → p < l.place → FitsAt g.row.ROOM 0 l.pairs p
