-- What a history says of single buckets
use Rattle.std.specs.Prelude.{◌≡◌, ℕ, ◌+◌, ◌*◌, ◌^◌, ◌==◌, ◌<◌, Bool, not, List, Some, if◌then◌else◌}
use Rattle.std.specs.Option.{unwrap_or}
use Rattle.std.specs.FinMap.{retain_keys}
use Rattle.lh_addr.specs.Fnv.{code_of}
use Rattle.lh_addr.specs.Growth.{hash_at, level, pointer, level_of}
use Rattle.lh_bucket.specs.Bucket.{Seen, content, raised, raised_level, stays}
use Rattle.lh_bucket.specs.PlainMap.{Records, reply, after}
use Rattle.lh_bucket.specs.declared.call.Call.{Call}
use Rattle.lh_bucket.specs.declared.call.Reply.{Reply}
use Rattle.lh_words.specs.Sums.{total}

-- 1 for true and 0 for false
abbrev pub bit : Bool → ℕ
bit b = if b then 1 else 0

-- whether a code belongs to the bucket: it leads to the bucket's number at the bucket's level
abbrev pub owns : ℕ → Seen → Bool
owns code bucket = hash_at bucket.head.initial (unwrap_or bucket.head.level 0) code == bucket.head.number

-- whether a key belongs to the bucket, by its code
abbrev pub belongs : Seen → List ℕ → Bool
belongs bucket key = owns (code_of key) bucket

-- to how many of these buckets a code belongs
abbrev pub owners_in : ℕ → List Seen → ℕ
owners_in code buckets = total (λ bucket. bit (owns code bucket)) buckets

-- the bucket holds just what the map has of its keys
abbrev pub Mirrors : Records → Seen → Type 0
Mirrors m bucket = content bucket ≡ retain_keys m (belongs bucket)

-- the bucket served the call with this reply, and is this one now
pub record HasServedCall (old : Seen) (call : Call) (given : Reply) (new : Seen) : Type 0 where
  pub head : new.head ≡ old.head
  pub replied : given ≡ reply (content old) call
  pub left : content new ≡ after (content old) call

-- the bucket has its number and its level in a file of this size
pub record IsPlacedIn (initial buckets : ℕ) (bucket : Seen) : Type 0 where
  pub initial_is : bucket.head.initial ≡ initial
  pub below : bucket.head.number < buckets
  pub level_is : bucket.head.level ≡ Some (level_of initial buckets bucket.head.number)

-- the bucket is the one that the next split of a file of this size divides
pub record IsNextSplit (initial buckets : ℕ) (bucket : Seen) : Type 0 where
  pub number_is : bucket.head.number ≡ pointer initial buckets
  pub level_is : bucket.head.level ≡ Some (level initial buckets)

-- a bucket was split into a lower and an upper half: both are one level up, and each key went where it leads there
pub record HasDivided (old low high : Seen) : Type 0 where
  pub low_head : low.head ≡ raised old.head old.head
  pub number : high.head.number ≡ old.head.number + old.head.initial * 2 ^ unwrap_or old.head.level 0
  pub initial : high.head.initial ≡ old.head.initial
  pub level : high.head.level ≡ Some (raised_level old.head)
  pub low_content : content low ≡ retain_keys (content old) (stays old.head)
  pub high_content : content high ≡ retain_keys (content old) (λ key. not (stays old.head key))
