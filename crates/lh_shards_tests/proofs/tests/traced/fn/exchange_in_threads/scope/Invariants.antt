-- The hands that are left are those of the shards, and each worker promises such hands.
use Rattle.std.specs.Prelude.{◌≡◌, All}
use Rattle.std.specs.Vec.Iter.{into_iter_items}
use Rattle.lh_shards.specs.Hands.{AreOf}
use Rattle.lh_shards_tests.proofs.tests.traced.fn.exchange_in_threads.scope.Given as goal

abbrev pub invariant-loop-own : goal.invariant-loop-own
invariant-loop-own g l = record {
  first : AreOf l.shards.now l.all;
  each : All (λ worker. worker.promise.0.now ≡ l.shards.now) l.workers.items;
}

abbrev pub invariant-loop-worker : goal.invariant-loop-worker
invariant-loop-worker g l = record {
  first : AreOf l.shards.now l.all;
  each : All (λ worker. worker.promise.0.now ≡ l.shards.now) (into_iter_items l.worker-iterator);
}
