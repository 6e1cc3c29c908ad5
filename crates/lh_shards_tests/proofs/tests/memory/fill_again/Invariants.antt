-- The hands of both callers stay those of the shards.
use Rattle.lh_shards.specs.Hands.{AreOf}
use Rattle.lh_shards_tests.proofs.tests.memory.fill_again.Given as goal

abbrev pub invariant-loop-letter : goal.invariant-loop-letter
invariant-loop-letter g l = record { first : AreOf l.shards l.first; second : AreOf l.shards l.second }
