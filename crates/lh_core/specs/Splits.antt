-- A row of buckets, before and after one of them is split into it and a new one at the end
use Rattle.std.specs.Prelude.{◌≡◌, ℕ, List, [], ◌∷◌, ◌++◌, not, length, None, slice_set}
use Rattle.std.specs.FinMap.{retain_keys}
use Rattle.lh_bucket.specs.Bucket.{Head, Seen, content, raised, stays}
use Rattle.lh_core.specs.World.{HasKeysOnce, bucket_at}

-- the head of a bucket that isn't filled
abbrev pub unfilled : ℕ → ℕ → ℕ → Head
unfilled number initial capacity = record { number = number; initial = initial; capacity = capacity; level = None }

-- Bucket i is split: it stays with the records whose codes still lead to it one level up, and all others go to a new
-- bucket at the end.
pub record IsSplit (old : List Seen) (i initial capacity : ℕ) (new : List Seen) : Type 0 where
  pub stay : Seen
  pub go : Seen
  pub is : new ≡ slice_set old i stay ++ go ∷ []
  pub stay_head : stay.head ≡ raised (bucket_at old i).head (bucket_at old i).head
  pub go_head : go.head ≡ raised (bucket_at old i).head (unfilled (length old) initial capacity)
  pub stay_content : content stay ≡ retain_keys (content (bucket_at old i)) (stays (bucket_at old i).head)
  pub go_content : content go ≡ retain_keys (content (bucket_at old i)) (λ key. not (stays (bucket_at old i).head key))
  pub stay_once : HasKeysOnce stay
  pub go_once : HasKeysOnce go
