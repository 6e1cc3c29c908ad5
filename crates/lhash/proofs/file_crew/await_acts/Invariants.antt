use Rattle.lhash.specs.Crew.{HasLookedOn}
use Rattle.lhash.proofs.file_crew.await_acts.Given as goal

abbrev pub invariant-loop-turn : goal.invariant-loop-turn
invariant-loop-turn g l = HasLookedOn l.file.state l.fn.hand l.hand
