-- There are as many files as shards so far, and a first hand of each.
use Rattle.std.proofs.Common.{◌≡◌, length, map}
use Rattle.lh_file.specs.FileState.{IsOpened}
use Rattle.lh_file.specs.HashFile.{Shared}
use Rattle.lh_shards.specs.Hands.{EachShard}
use Rattle.lh_shards.proofs.shards.SizedShards+Untraced+Unbranded+ROOM.created.Given as goal

abbrev pub invariant-loop-shard : goal.invariant-loop-shard
invariant-loop-shard g l = record {
  files : length l.files.items ≡ l._shard;
  hands : length l.hands.items ≡ l._shard;
  each : EachShard (λ shard. IsOpened l.config l.config.initial l.recording 0)
      (map (λ (file : Shared). file.state) l.files.items) l.hands.items;
}
