-- The joined hands are those of the shards, and so are those of the workers that are left.
use Rattle.std.specs.Prelude.{◌≡◌, All}
use Rattle.std.specs.Vec.Iter.{into_iter_items}
use Rattle.lh_shards.specs.Hands.{AreOf}
use Rattle.lh_shards_tests.proofs.tests.threads.join_all.Given as goal

abbrev pub invariant-loop-worker : goal.invariant-loop-worker
invariant-loop-worker g l = record {
  first : AreOf l.shards l.all;
  each : All (λ worker. worker.promise.0.now ≡ l.shards) (into_iter_items l.worker-iterator);
}
