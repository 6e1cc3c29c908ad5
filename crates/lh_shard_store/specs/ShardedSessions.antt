-- What contracts see of a session of shards
use Rattle.std.specs.Prelude.{◌≡◌, ℕ, ◌+◌, ◌-◌, List}
use Rattle.lh_bucket.specs.PlainMap.{key_of}
use Rattle.lh_bucket.specs.declared.call.Call.{Call}
use Rattle.lh_bucket.specs.declared.call.Reply.{Reply}
use Rattle.lh_file.specs.Calls.Served.{HasServed, KnowsMore}
use Rattle.lh_file.specs.FileState.{FileState}
use Rattle.lh_file.specs.Words.HandState.{HandState}
use Rattle.lh_file.specs.declared.words.load.Load.{Load}
use Rattle.lh_shards.specs.Counts.{AreLoads, capped}
use Rattle.lh_shards.specs.Dividing.{EachPair}
use Rattle.lh_shards.specs.Hands.{AtShardOf}

-- the files of all shards, and a hand of each
pub record ShardedState : Type 0 where
  pub files : List FileState
  pub hands : List HandState

-- The hand of the key's shard has made this call, with this reply. All other hands are as they were.
abbrev pub IsMadeAtHome : ShardedState → Call → Reply → ShardedState → Type 0
IsMadeAtHome old call reply new =
    AtShardOf (key_of call) old.files old.hands new.hands (λ _ before after. HasServed before call reply after)

-- Each hand is as it was, but that it may have seen more buckets.
abbrev pub HasIdled : ShardedState → ShardedState → Type 0
HasIdled old new = EachPair KnowsMore old.hands new.hands

-- The number of records is what the shards were opened with and what was inserted since, less what was deleted, each as
-- the sum of what the files answer.
pub record IsRecordSum (old : ShardedState) (records : ℕ) (new : ShardedState) : Type 0 where
  pub load : Load
  pub sum : AreLoads old.files old.hands load new.hands
  pub total : records ≡ capped (load.opening + load.inserted) - load.deleted
