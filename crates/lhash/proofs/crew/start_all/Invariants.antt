use Rattle.std.specs.Prelude.{◌≡◌, ◌+◌, ℕ, ◌^◌, All, length, sum_by}
use Rattle.lhash.proofs.Places.{places_before}
use Rattle.lhash.proofs.crew.start_all.Given as goal

abbrev pub invariant-loop-first : goal.invariant-loop-first
invariant-loop-first g l = record {
  left : ℕ;
  hands : g.T.SharedTable.have l.table left 0 l.hands;
  kept : left + places_before l.first l.threads (length l.calls) ≡ 2 ^ 63;
  each : All (λ worker. worker.promise.table.now ≡ l.table) l.workers.items;
  dealt : sum_by (λ worker. worker.promise.calls) l.workers.items ≡ places_before l.first l.threads (length l.calls);
}
