-- There are as many files as listings so far, and a first hand of each.
use Rattle.std.proofs.Common.{◌≡◌, length, map}
use Rattle.lh_file.specs.HashFile.{Shared}
use Rattle.lh_shards.specs.Hands.{EachShard}
use Rattle.lh_shards.proofs.Homes.{OpenedFrom}
use Rattle.lh_shards.proofs.opening.SizedShards+Untraced+Unbranded+ROOM.opened.Given as goal

abbrev pub invariant-loop-shard : goal.invariant-loop-shard
invariant-loop-shard g l = record {
  files : length l.files.items ≡ l.shard;
  hands : length l.hands.items ≡ l.shard;
  each : EachShard (OpenedFrom l.listings l.recording) (map (λ (file : Shared). file.state) l.files.items)
      l.hands.items;
}
