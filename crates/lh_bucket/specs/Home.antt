-- The bucket that a code leads to
use Rattle.std.specs.Prelude.{◌≡◌, ℕ, ◌≤◌}
use Rattle.lh_addr.specs.Growth.{hash_at}
use Rattle.lh_addr.specs.Limits.{IsInitial, most_level}

-- a code, and the number, the level and the initial count of a bucket
pub record HomeOf : Type 0 where
  pub code : ℕ
  pub bucket : ℕ
  pub level : ℕ
  pub initial : ℕ

-- the bucket is the one that the code leads to at the bucket's level
pub record LeadsHome (home : HomeOf) : Type 0 where
  pub initial : IsInitial home.initial
  pub level : home.level ≤ most_level
  pub leads : hash_at home.initial home.level home.code ≡ home.bucket
