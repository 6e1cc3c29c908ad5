-- Acts, and the order of their stamps
use Rattle.std.specs.Prelude.{◌≡◌, ◌≢◌, ℕ, ◌<◌, List, filter, map, nat_lt, slice_get}
use Rattle.std.specs.List.Sorted.{IsPermutation, IsNonDecreasingBy}
use Rattle.lh_bucket.specs.declared.call.Call.{Call}
use Rattle.lh_bucket.specs.declared.call.Reply.{Reply}
use Rattle.lh_settling.specs.declared.act.ActLine.{ActLine}

-- the stamps of some acts
abbrev pub stamps_of : List ActLine → List ℕ
stamps_of acts = map (λ act. act.stamp) acts

-- their calls
abbrev pub calls_of : List ActLine → List Call
calls_of acts = map (λ act. act.call) acts

-- the replies that were given to these
abbrev pub replies_of : List ActLine → List Reply
replies_of acts = map (λ act. act.reply) acts

-- the acts with stamps below this one, in their order
abbrev pub acts_before : ℕ → List ActLine → List ActLine
acts_before stamp acts = filter (λ act. nat_lt act.stamp stamp) acts

-- the same acts, in the order of their stamps
pub record IsInOrder (acts history : List ActLine) : Type 0 where
  pub same : IsPermutation acts history
  pub rising : IsNonDecreasingBy (λ act. act.stamp) history

-- the first place where two lists differ, which may be the end of one of them
pub record FirstDiffer {X : Type 0} (xs ys : List X) (place : ℕ) : Type 0 where
  pub before : (p : ℕ) → p < place → slice_get xs p ≡ slice_get ys p
  pub here : slice_get xs place ≢ slice_get ys place
