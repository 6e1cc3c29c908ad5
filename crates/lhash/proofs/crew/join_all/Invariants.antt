use Rattle.std.specs.Prelude.{◌≡◌, ℕ, ◌+◌, All, sum_by}
use Rattle.std.specs.Vec.Iter.{into_iter_items}
use Rattle.lhash.specs.Crew.{Remembers}
use Rattle.lhash.proofs.crew.join_all.Given as goal

abbrev pub invariant-loop-worker : goal.invariant-loop-worker
invariant-loop-worker g l = record {
  joined : ℕ;
  count : joined + sum_by (λ worker. worker.promise.calls) (into_iter_items l.worker-iterator)
      ≡ sum_by (λ worker. worker.promise.calls) (into_iter_items l.initial.worker-iterator);
  have : (calls made : ℕ) → g.T.SharedTable.have l.table calls made l.initial.hands →
      g.T.SharedTable.have l.table (calls + joined) (made + joined) l.hands;
  saw : Remembers (g.T.SharedTable.saw l.table) l.initial.hands l.hands;
  each : All (λ worker. worker.promise.table.now ≡ l.table) (into_iter_items l.worker-iterator);
}
