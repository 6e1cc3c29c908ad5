-- The files and hands so far are closed, and the others are left.
use Rattle.std.proofs.Common.{◌≡◌, ◌+◌, drop, length, map}
use Rattle.std.specs.Vec.Iter.{into_iter_items, into_iter_len}
use Rattle.lh_file.specs.HashFile.{Shared}
use Rattle.lh_shards.specs.Closing.{IsClosedBy}
use Rattle.lh_shards.proofs.Places.{EachThree}
use Rattle.lh_shards.proofs.shards.SizedShards.close.Given as goal

abbrev pub invariant-loop-shard : goal.invariant-loop-shard
invariant-loop-shard g l = record {
  files : map (λ (file : Shared). file.state) (into_iter_items l.files) ≡ drop l._shard l.fn.self;
  hands : into_iter_items l.hands ≡ drop l._shard l.fn.hands;
  files_left : into_iter_len l.files + l._shard ≡ length l.fn.self;
  hands_left : into_iter_len l.hands + l._shard ≡ length l.fn.self;
  many : length l.shards.items ≡ l._shard;
  each : EachThree (IsClosedBy g.M.Mode.traced) l.fn.self l.fn.hands l.shards.items;
}
