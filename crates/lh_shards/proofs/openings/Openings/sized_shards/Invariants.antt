-- The files of the openings so far, and a first hand of each; the other openings are left.
use Rattle.std.proofs.Common.{◌≡◌, ◌+◌, ◌++◌, drop, length, map}
use Rattle.std.specs.Vec.Iter.{into_iter_items, into_iter_len}
use Rattle.lh_file.specs.HashFile.{Shared}
use Rattle.lh_shards.specs.Hands.{EachShard}
use Rattle.lh_shards.proofs.OneShard.{OpenedAs}
use Rattle.lh_shards.proofs.openings.Openings.sized_shards.Given as goal

abbrev pub invariant-loop-shard : goal.invariant-loop-shard
invariant-loop-shard g l = record {
  openings : into_iter_items l.left ≡ drop l._shard l.fn.self;
  left : into_iter_len l.left + l._shard ≡ length l.fn.self;
  whole : map (λ (file : Shared). file.state) l.files.items ++ drop l._shard l.fn.self ≡ l.fn.self;
  many : length l.files.items ≡ l._shard;
  hands : length l.hands.items ≡ l._shard;
  each : EachShard OpenedAs (map (λ (file : Shared). file.state) l.files.items) l.hands.items;
}
