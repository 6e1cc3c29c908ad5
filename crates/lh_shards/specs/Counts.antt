-- How many buckets and records all shards have: sums of what each file answers
use Rattle.std.specs.Prelude.{◌≡◌, ℕ, ◌-◌, ◌^◌, Bool, List, length, min, sum, sum_by, Some, slice_get}
use Rattle.lh_file.specs.FileState.{FileState}
use Rattle.lh_file.specs.History.Telling.{HasTold}
use Rattle.lh_file.specs.Words.Calls.{IsBuckets, IsLoadOf}
use Rattle.lh_file.specs.Words.HandState.{HandState}
use Rattle.lh_file.specs.declared.words.load.Load.{Load}

-- there are these terms, one a shard, and each is what the file of its shard has answered to its hand
pub record AreAnswered {X : Type 0} (Answers : FileState → HandState → X → HandState → Type 0)
    (files : List FileState) (old : List HandState) (terms : List X) (new : List HandState) : Type 0 where
  pub terms_count : length terms ≡ length files
  pub hands_count : length new ≡ length old
  pub each : (shard : ℕ) (file : FileState) (before : HandState) (term : X) (after : HandState) →
      slice_get files shard ≡ Some file → slice_get old shard ≡ Some before → slice_get terms shard ≡ Some term →
      slice_get new shard ≡ Some after → Answers file before term after

-- the number of buckets is the sum of what the files have answered
pub record IsBucketSum (files : List FileState) (old : List HandState) (buckets : ℕ) (new : List HandState)
    : Type 0 where
  pub terms : List ℕ
  pub answered : AreAnswered IsBuckets files old terms new
  pub total : buckets ≡ sum terms

-- a number that stops at the greatest one of 64 bits
abbrev pub capped : ℕ → ℕ
capped n = min n (2 ^ 64 - 1)

-- each number of the load is such a sum, up to 2^64 - 1, and all hands are as they were
pub record AreLoads (files : List FileState) (old : List HandState) (load : Load) (new : List HandState) : Type 0 where
  pub terms : List Load
  pub answered : AreAnswered IsLoadOf files old terms new
  pub same : new ≡ old
  pub opening : load.opening ≡ capped (sum_by (λ term. term.opening) terms)
  pub inserted : load.inserted ≡ capped (sum_by (λ term. term.inserted) terms)
  pub deleted : load.deleted ≡ capped (sum_by (λ term. term.deleted) terms)

-- the number of acts is the sum of what the files have told their hands of, up to 2^64 - 1
pub record IsActSum (traced : Bool) (files : List FileState) (old : List HandState) (acts : ℕ) (new : List HandState)
    : Type 0 where
  pub terms : List ℕ
  pub answered : AreAnswered (HasTold traced) files old terms new
  pub total : acts ≡ capped (sum terms)
