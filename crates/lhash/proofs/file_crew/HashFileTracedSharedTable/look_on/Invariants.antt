use Rattle.std.specs.Prelude.{◌≡◌, All, length}
use Rattle.lhash.specs.Crew.{HasLookedOn, HasTakenOne}
use Rattle.lhash.proofs.file_crew.HashFileTracedSharedTable.look_on.Given as goal

abbrev pub invariant-loop-number : goal.invariant-loop-number
invariant-loop-number g l = record {
  hand : HasLookedOn l.self.state l.fn.hand l.hand;
  count : length l.taken.items ≡ l.number;
  each : All (HasTakenOne l.self.state l.hand) l.taken.items;
}
