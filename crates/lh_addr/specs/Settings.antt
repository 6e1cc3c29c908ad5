-- What a configuration holds, the ranges of its settings, and the split policy
use Rattle.std.specs.Prelude.{ℕ, ◌*◌, Bool, ◌&&◌, nat_lt}
use Rattle.lh_addr.specs.Limits.{IsInitial, IsCapacity, IsLoad, IsSize, most_buckets}

-- the initial number of buckets, the records that a page holds, the load threshold in percent, and the greatest number
-- of buckets
pub record Settings : Type 0 where
  pub initial : ℕ
  pub capacity : ℕ
  pub load : ℕ
  pub max : ℕ

-- what the settings are where nothing else is said
abbrev pub default_settings : Settings
default_settings = record { initial = 1; capacity = 14; load = 100; max = most_buckets }

-- each setting is within its limits
pub record IsInRange (s : Settings) : Type 0 where
  pub initial : IsInitial s.initial
  pub capacity : IsCapacity s.capacity
  pub load : IsLoad s.load
  pub max : IsSize s.initial s.max

-- the split policy: 100 records in percent of the slots of all primary pages are more than the threshold, and the file
-- may have one bucket more
abbrev pub wants_split : Settings → ℕ → ℕ → Bool
wants_split s records buckets =
    nat_lt (s.load * s.capacity * buckets) (100 * records) && nat_lt buckets s.max
