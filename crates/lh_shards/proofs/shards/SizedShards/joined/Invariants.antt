-- The hands so far are joined, and stand behind the others.
use Rattle.std.proofs.Common.{◌≡◌, ◌+◌, List, ◌++◌, drop, length}
use Rattle.std.specs.Vec.Iter.{into_iter_items, into_iter_len}
use Rattle.lh_file.specs.Words.HandState.{HandState, IsJoined}
use Rattle.lh_shards.proofs.Places.{EachThree}
use Rattle.lh_shards.proofs.shards.SizedShards.joined.Given as goal

abbrev pub invariant-loop-shard : goal.invariant-loop-shard
invariant-loop-shard g l = record {
  done : List HandState;
  many : length done ≡ l.shard;
  hands : l.hands.items ≡ drop l.shard l.fn.first ++ done;
  others : into_iter_items l.others ≡ drop l.shard l.fn.second;
  others_left : into_iter_len l.others + l.shard ≡ length l.fn.first;
  each : EachThree IsJoined l.fn.first l.fn.second done;
}
