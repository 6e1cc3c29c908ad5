-- Hands of all shards divided in two
use Rattle.std.specs.Prelude.{◌≡◌, ℕ, ◌<◌, ◌≤◌, List, length, Result, IfOk, IfErr, OnOk, OnErr, Some, slice_get}
use Rattle.lh_file.specs.Words.HandState.{HandState, seeing, IsBranch}
use Rattle.lh_words.specs.Views.{lessened}
use Rattle.lh_shards.specs.declared.fault.SplitFault.{SplitFault}
use Rattle.lh_shards.specs.declared.fault.SplitFault.TheVariants.{Spent, Memory}

-- a relation holds of the hands at each place of two lists, which are as long
pub record EachPair (Relates : HandState → HandState → Type 0) (olds news : List HandState) : Type 0 where
  pub count : length news ≡ length olds
  pub each : (shard : ℕ) (old new : HandState) → slice_get olds shard ≡ Some old → slice_get news shard ≡ Some new →
      Relates old new

-- each hand may make so many calls
abbrev pub AllHave : ℕ → List HandState → Type 0
AllHave calls hands = (shard : ℕ) (hand : HandState) → slice_get hands shard ≡ Some hand → calls ≤ hand.view.left

-- the hand had so many calls, and they are all that it has lost
pub record HasGiven (calls : ℕ) (old new : HandState) : Type 0 where
  pub enough : calls ≤ old.view.left
  pub kept : new ≡ seeing old (lessened calls old.view)

-- When each fault is answered: the hand of that shard is the first that may make fewer calls, and may make so many; or
-- there was no memory, and each hand may make enough.
abbrev pub IsRefused : ℕ → List HandState → SplitFault → Type 0
IsRefused calls hands (Spent shard left) =
    ((hand : HandState) × (slice_get hands shard ≡ Some hand) × (hand.view.left ≡ left) × (left < calls))
    × ((earlier : ℕ) (hand : HandState) → earlier < shard → slice_get hands earlier ≡ Some hand →
    calls ≤ hand.view.left)
IsRefused calls hands Memory = AllHave calls hands

-- Hands that were to give this many calls each to new ones
pub record AreDivided (calls : ℕ) (old : List HandState) (result : Result (List HandState) SplitFault)
    (new : List HandState) : Type 0 where
  -- Each new hand has them, and they are all that the old one has lost.
  pub given : IfOk result (EachPair (IsBranch calls) old)
  pub kept : OnOk result (EachPair (HasGiven calls) old new)
  -- Where a hand may make fewer, the first such one is named. All hands stay as they were.
  pub refused : IfErr result (IsRefused calls old)
  pub unchanged : OnErr result (new ≡ old)
