-- Hands of all shards: a hand of each file, in the order of the files
use Rattle.std.specs.Prelude.{◌≡◌, ℕ, ◌≤◌, Bool, false, List, length, All, Some, slice_get, slice_set}
use Rattle.lh_addr.specs.Settings.{Settings}
use Rattle.lh_bucket.specs.PlainMap.{key_of}
use Rattle.lh_settling.specs.declared.act.ActLine.{ActLine}
use Rattle.lh_file.specs.FileState.{FileState, IsOf, IsOpened}
use Rattle.lh_file.specs.Words.HandState.{HandState}
use Rattle.lh_shards.specs.Number.{home_of}

-- one shard or more, up to 1,024
abbrev pub IsCount : ℕ → Type 0
IsCount shards = (1 ≤ shards) × (shards ≤ 1024)

-- the keys of these acts belong to one of so many shards
abbrev pub AreAtHome : ℕ → ℕ → List ActLine → Type 0
AreAtHome shards shard acts = All (λ act. home_of shards (key_of act.call) ≡ shard) acts

-- the hand is one of this file, which is one of so many shards, without the right to split, and the keys of its acts
-- belong there
pub record IsOfShard (shards shard : ℕ) (file : FileState) (hand : HandState) : Type 0 where
  pub of : IsOf file hand
  pub right : hand.view.has_right ≡ false
  pub home : AreAtHome shards shard hand.acts

-- a fact about a shard: its place, its file and a hand of it
abbrev pub ShardFact : Type 1
ShardFact = ℕ → FileState → HandState → Type 0

-- the fact holds of each shard
abbrev pub EachShard : ShardFact → List FileState → List HandState → Type 0
EachShard Fact files hands =
    (shard : ℕ) (file : FileState) (hand : HandState) → slice_get files shard ≡ Some file →
    slice_get hands shard ≡ Some hand → Fact shard file hand

-- there is a hand of each file, in their order, and the keys of its acts belong there
pub record AreOf (files : List FileState) (hands : List HandState) : Type 0 where
  pub count : length hands ≡ length files
  pub each : EachShard (IsOfShard (length files)) files hands

-- What a call on one shard promises: the file of the shard and the hand of it have done this, and the hands of all
-- other shards are as they were.
pub record AtShard (shard : ℕ) (files : List FileState) (old new : List HandState)
    (Does : FileState → HandState → HandState → Type 0) : Type 0 where
  pub file : FileState
  pub before : HandState
  pub after : HandState
  pub file_is : slice_get files shard ≡ Some file
  pub before_is : slice_get old shard ≡ Some before
  pub after_is : new ≡ slice_set old shard after
  pub does : Does file before after

-- the same of a call by a key, on the key's shard
abbrev pub AtShardOf : List ℕ → List FileState → List HandState → List HandState →
    (FileState → HandState → HandState → Type 0) → Type 0
AtShardOf key files old new Does = AtShard (home_of (length files) key) files old new Does

-- empty files of a configuration, so many, and the first hands of them
pub record AreCreated (shards : ℕ) (config : Settings) (recording : Bool) (files : List FileState)
    (hands : List HandState) : Type 0 where
  pub count : length files ≡ shards
  pub each : EachShard (λ shard. IsOpened config config.initial recording 0) files hands
  pub of : AreOf files hands
