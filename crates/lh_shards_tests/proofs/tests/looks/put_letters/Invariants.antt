-- The hands stay those of the shards.
use Rattle.lh_shards.specs.Hands.{AreOf}
use Rattle.lh_shards_tests.proofs.tests.looks.put_letters.Given as goal

abbrev pub invariant-loop-letter : goal.invariant-loop-letter
invariant-loop-letter g l = AreOf l.shards l.hands
