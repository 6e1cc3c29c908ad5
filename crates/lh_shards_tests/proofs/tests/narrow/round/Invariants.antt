-- The hands stay those of the shards, and no number counts twice.
use Rattle.std.specs.Prelude.{◌<◌}
use Rattle.lh_shards.specs.Hands.{AreOf}
use Rattle.lh_shards_tests.proofs.tests.narrow.round.Given as goal

abbrev pub invariant-loop-number : goal.invariant-loop-number
invariant-loop-number g l = record { of : AreOf l.shards l.hands; due : l.due < l.number }
