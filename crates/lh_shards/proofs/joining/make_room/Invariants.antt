-- The first hands so far have room for the acts of the second ones, and the others are as they were.
use Rattle.lh_shards.proofs.Joins.{HasRoom}
use Rattle.lh_shards.proofs.Passing.{Passed}
use Rattle.lh_shards.proofs.joining.make_room.Given as goal

abbrev pub invariant-loop-shard : goal.invariant-loop-shard
invariant-loop-shard l = Passed (HasRoom l.second) l.shard l.fn.first l.first-inside.hands.items
