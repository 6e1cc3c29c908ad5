-- The hands stay those of the shards.
use Rattle.lh_shards.specs.Hands.{AreOf}
use Rattle.lh_shards_tests.proofs.tests.looks.look.Given as goal

abbrev pub invariant-loop-shard : goal.invariant-loop-shard
invariant-loop-shard g l = AreOf l.shards l.hands
