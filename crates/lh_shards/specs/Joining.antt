-- Hands of all shards joined
use Rattle.std.specs.Prelude.{◌≡◌, ℕ, ◌<◌, ◌≤◌, List, length, Result, IfOk, IfErr, Some, slice_get}
use Rattle.lh_file.specs.Words.HandState.{HandState, IsJoined, IsSame}
use Rattle.lh_shards.specs.declared.fault.JoinShardsFault.{JoinShardsFault}

-- a first hand and a second one of each shard are one
pub record AreJoinedByShard (first second new : List HandState) : Type 0 where
  pub count : length new ≡ length first
  pub each : (shard : ℕ) (one other joined : HandState) → slice_get first shard ≡ Some one →
      slice_get second shard ≡ Some other → slice_get new shard ≡ Some joined → IsJoined one other joined

-- each hand is the same, with whatever room for acts
pub record AreSame (old new : List HandState) : Type 0 where
  pub count : length new ≡ length old
  pub each : (shard : ℕ) (before after : HandState) → slice_get old shard ≡ Some before →
      slice_get new shard ≡ Some after → IsSame before after

-- each first hand has room for the acts of the second
abbrev pub AllHaveRoom : List HandState → List HandState → Type 0
AllHaveRoom first second =
    (shard : ℕ) (one other : HandState) → slice_get first shard ≡ Some one → slice_get second shard ≡ Some other →
    length other.acts ≤ one.room

-- so has each first hand of a shard before this one
abbrev pub HaveRoomBefore : ℕ → List HandState → List HandState → Type 0
HaveRoomBefore shard first second =
    (earlier : ℕ) (one other : HandState) → earlier < shard → slice_get first earlier ≡ Some one →
    slice_get second earlier ≡ Some other → length other.acts ≤ one.room

-- the first hand of the shard has no room for the acts of the second
pub record IsShort (first second : List HandState) (shard : ℕ) : Type 0 where
  pub one : HandState
  pub other : HandState
  pub one_is : slice_get first shard ≡ Some one
  pub other_is : slice_get second shard ≡ Some other
  pub short : one.room < length other.acts

-- Hands that were to be joined
pub record AreUnited (first second : List HandState) (result : Result (List HandState) JoinShardsFault) : Type 0 where
  -- Each is one of two,
  pub ok : IfOk result (AreJoinedByShard first second)
  -- or all come back as they were, but that some first ones have more room.
  pub first_back : IfErr result (λ fault. AreSame first fault.first)
  pub second_back : IfErr result (λ fault. fault.second ≡ second)
  -- The shard that is named is the first one whose hand has got no room.
  pub short : IfErr result (λ fault. IsShort first second fault.shard)
  pub before : IfErr result (λ fault. HaveRoomBefore fault.shard fault.first second)
