-- The hands stay those of the shards.
use Rattle.lh_shards.specs.Hands.{AreOf}
use Rattle.lh_shards_tests.proofs.tests.memory.narrow.fill_again.Given as goal

abbrev pub invariant-loop-number : goal.invariant-loop-number
invariant-loop-number g l = AreOf l.shards l.hands
