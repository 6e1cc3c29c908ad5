-- Acts on the shards' own buckets, and how many calls hands have in all
use Rattle.std.specs.Prelude.{◌≡◌, ℕ, ◌+◌, List, Some, slice_get, slice_set}
use Rattle.lh_file.specs.FileState.{FileState}
use Rattle.lh_file.specs.History.Own.{IsOwn, share_of}
use Rattle.lh_file.specs.Words.HandState.{HandState, IsBranch}
use Rattle.lh_shards.specs.Dividing.{EachPair, HasGiven}
use Rattle.lh_shards.specs.Hands.{AreOf, EachShard}
use Rattle.lh_shards.specs.Joining.{AreJoinedByShard}

-- no hand has made an act on a bucket that isn't its file's
abbrev pub AreOwn : List FileState → List HandState → Type 0
AreOwn files hands = EachShard (λ shard. IsOwn) files hands

-- each hand has made or may still make this many calls, where the files record
abbrev pub AllShare : ℕ → List HandState → Type 0
AllShare calls hands =
    (shard : ℕ) (hand : HandState) → slice_get hands shard ≡ Some hand → share_of hand ≡ calls

-- A call on one shard that leaves its hand the file's own, with its share, leaves all hands so. What is said of the
-- hand before the call, and of the one after it, is what `AtShard` says there are.
abbrev pub CalledLaw : Type 0
CalledLaw =
    (shard calls : ℕ) (files : List FileState) (file : FileState) (old new : List HandState)
    (before after : HandState) →
    slice_get files shard ≡ Some file → slice_get old shard ≡ Some before → new ≡ slice_set old shard after →
    ((IsOwn file before → IsOwn file after) → AreOwn files old → AreOwn files new)
    × (share_of after ≡ share_of before → AllShare calls old → AllShare calls new)

-- There is one hand after a call, however many clauses speak of it.
abbrev pub SameLaw : Type 0
SameLaw =
    (shard : ℕ) (old : List HandState) (before after also : HandState) → slice_get old shard ≡ Some before →
    slice_set old shard after ≡ slice_set old shard also → after ≡ also

-- Hands that are divided leave both parts their files' own, and the shares of both are what they had.
abbrev pub HandsDividedLaw : Type 0
HandsDividedLaw =
    (calls others : ℕ) (files : List FileState) (old given new : List HandState) → AreOf files old →
    EachPair (IsBranch calls) old given → EachPair (HasGiven calls) old new → AreOwn files old →
    AreOwn files new × AreOwn files given × AllShare calls given
    × (AllShare (others + calls) old → AllShare others new)

-- Hands that are made of two for each shard are their files' own where all were, and their shares are those of both.
abbrev pub HandsJoinedLaw : Type 0
HandsJoinedLaw =
    (calls others : ℕ) (files : List FileState) (first second new : List HandState) → AreOf files first →
    AreOf files second → AreJoinedByShard first second new →
    (AreOwn files first → AreOwn files second → AreOwn files new)
    × (AllShare calls first → AllShare others second → AllShare (calls + others) new)
