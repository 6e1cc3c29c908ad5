-- What a bucket answers
use Rattle.std.specs.Prelude.{◌≡◌, ℕ, ◌≤◌}
use Rattle.lh_addr.specs.Fnv.{code_of}
use Rattle.lh_addr.specs.Growth.{hash_at}
use Rattle.lh_addr.specs.Limits.{IsInitial, most_level}
use Rattle.lh_bucket.specs.declared.call.Call.{Call}
use Rattle.lh_bucket.specs.declared.call.Reply.{Reply}
use Rattle.lh_bucket.specs.Call.{key_of}

-- a call with its reply, and the number, the level and the initial count of the bucket that answered it
pub record Answered : Type 0 where
  pub call : Call
  pub reply : Reply
  pub bucket : ℕ
  pub level : ℕ
  pub initial : ℕ

-- the bucket that answered is the one that the key's code leads to at the bucket's level
pub record IsAnswer (answer : Answered) : Type 0 where
  pub initial : IsInitial answer.initial
  pub level : answer.level ≤ most_level
  pub home : hash_at answer.initial answer.level (code_of (key_of answer.call)) ≡ answer.bucket
