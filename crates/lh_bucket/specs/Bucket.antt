-- What every bucket is seen as, and what holds of it
use Rattle.std.specs.Prelude.{◌≡◌, ℕ, ◌+◌, ◌*◌, ◌^◌, ◌<◌, ◌≤◌, Bool, List, [], Option, Some, None}
use Rattle.std.specs.Bool.{IsTrue}
use Rattle.std.specs.List.{IsDistinct}
use Rattle.std.specs.Option.{unwrap_or}
use Rattle.std.specs.Str.{bytes_eq}
use Rattle.std.specs.FinMap.{contains_key}
use Rattle.lh_addr.specs.Fnv.{code_of}
use Rattle.lh_addr.specs.Growth.{hash_at}
use Rattle.lh_addr.specs.Limits.{IsInitial, IsCapacity, most_level}
use Rattle.lh_page.specs.declared.pair.Pair.{Pair}
use Rattle.lh_page.specs.Records.{keys_of}
use Rattle.lh_bucket.specs.declared.call.Call.{Call}
use Rattle.lh_bucket.specs.declared.verdict.Verdict.{Verdict}
use Rattle.lh_bucket.specs.Answer.{Answered}
use Rattle.lh_bucket.specs.Leaving.{leads_to}
use Rattle.lh_bucket.specs.PlainMap.{Records, reply}
use Rattle.lh_bucket.specs.Records.{map_of}
use Rattle.lh_bucket.specs.Verdict.{verdict_of}

-- a bucket but for its records: its number, how many buckets its file began with, how many records a page holds, and
-- its level, or none where it isn't filled yet
pub record Head : Type 0 where
  pub number : ℕ
  pub initial : ℕ
  pub capacity : ℕ
  pub level : Option ℕ

-- a bucket with its records, in the order of their places
pub record Seen : Type 0 where
  pub head : Head
  pub pairs : List Pair

-- the finite map that a bucket holds
abbrev pub content : Seen → Records
content bucket = map_of bucket.pairs

-- a bucket that isn't filled has no records, and each key of a filled one leads to its number at its level
abbrev pub HasOwnKeys : Head → List Pair → Option ℕ → Type 0
HasOwnKeys head pairs None = pairs ≡ []
HasOwnKeys head pairs (Some level) =
    (level ≤ most_level)
    × ((key : List ℕ) → IsTrue (contains_key (map_of pairs) key) →
    hash_at head.initial level (code_of key) ≡ head.number)

-- what holds of every bucket: its file's numbers are within their limits, no key stands twice, and each stands where it
-- belongs
pub record IsKept (bucket : Seen) : Type 0 where
  pub initial : IsInitial bucket.head.initial
  pub capacity : IsCapacity bucket.head.capacity
  pub distinct : IsDistinct bytes_eq (keys_of bucket.pairs)
  pub home : HasOwnKeys bucket.head bucket.pairs bucket.head.level

-- a bucket's verdict on a key of code c that is looked for at level k
abbrev pub verdict : Head → ℕ → ℕ → Verdict
verdict head c k = verdict_of head.number head.initial head.level c k

-- a bucket's answer to a call that looked for it at level k
abbrev pub answer : Seen → Call → ℕ → Answered
answer bucket call k = record {
  call = call;
  reply = reply (content bucket) call;
  bucket = bucket.head.number;
  level = k;
  initial = bucket.head.initial;
}

-- the level of both buckets after a split
abbrev pub raised_level : Head → ℕ
raised_level old = unwrap_or old.level 0 + 1

-- a bucket after a split of old, but for its records
abbrev pub raised : Head → Head → Head
raised old bucket = record bucket { level = Some (raised_level old) }

-- whether a split leaves a key in the old bucket: its code still leads there one level up
unfoldable pub stays : Head → List ℕ → Bool
stays old key = leads_to old.initial (raised_level old) old.number key

-- one bucket may be split into another: it is filled, at a level below 16, and the other is the empty bucket that its
-- records can go to
pub record CanSplit (old new : Head) : Type 0 where
  pub level : ℕ
  pub filled : old.level ≡ Some level
  pub below : level < most_level
  pub unfilled : new.level ≡ None
  pub number : new.number ≡ old.number + old.initial * 2 ^ level
  pub initial : new.initial ≡ old.initial
  pub capacity : new.capacity ≡ old.capacity
