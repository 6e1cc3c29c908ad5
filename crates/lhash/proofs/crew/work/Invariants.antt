use Rattle.std.specs.Prelude.{◌≡◌, ℕ, ◌+◌, length}
use Rattle.lhash.specs.Crew.{places_from}
use Rattle.lhash.proofs.crew.work.Given as goal

abbrev pub invariant-loop-place : goal.invariant-loop-place
invariant-loop-place g l = record {
  made : ℕ;
  have : g.T.SharedTable.have l.table (places_from l.fn.first l.threads (length l.calls)) made l.hands;
  left : made + places_from l.place l.threads (length l.calls) ≡ places_from l.fn.first l.threads (length l.calls);
}
