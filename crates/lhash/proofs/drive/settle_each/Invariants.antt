use Rattle.std.specs.Prelude.{All, take}
use Rattle.lhash.specs.Driving.{IsSettledBefore}
use Rattle.lhash.proofs.drive.settle_each.Given as goal

abbrev pub invariant-loop-place : goal.invariant-loop-place
invariant-loop-place l = All (IsSettledBefore l.empty.config l.acts) (take l.place l.taken)
