-- All buckets of a file
use Rattle.std.specs.Prelude.{◌≡◌, ℕ, ◌+◌, Bool, false, List, Option, Some, None, length, nat_le, slice_get}
use Rattle.std.specs.Option.{option_map, unwrap_or}
use mathlib.Core.Option.{some}
use lib.ListN.{get_elem?}
use Rattle.lh_addr.specs.Growth.{level as level_at, pointer, level_of}
use Rattle.lh_addr.specs.Settings.{Settings}
use Rattle.lh_bucket.specs.Bucket.{Head, Seen, IsKept}

-- a bucket of a file of this configuration and size, but for its records
abbrev pub head_in : Settings → ℕ → ℕ → Head
head_in config size number = record {
  number = number;
  initial = config.initial;
  capacity = config.capacity;
  level = Some (level_of config.initial size number);
}

-- these are all buckets of a file of this configuration, in the order of their numbers, each filled at its level
abbrev pub AreBucketsOf : Settings → List Seen → Type 0
AreBucketsOf config buckets =
    (place : ℕ) (bucket : Seen) → get_elem? buckets place ≡ some bucket →
    (bucket.head ≡ head_in config (length buckets) place) × IsKept bucket

-- whether a bucket is filled at this level or a higher one
abbrev pub reaches : ℕ → Option ℕ → Bool
reaches least None = false
reaches least (Some level) = nat_le least level

-- whether these buckets, which are all that a file of so many has, are the first ones of a larger file: the one that is
-- divided next has the level that this gives it, or a higher one
abbrev pub is_outgrown : ℕ → List Seen → Bool
is_outgrown initial buckets =
    unwrap_or (option_map (λ b. reaches (level_at initial (length buckets) + 1) b.head.level)
    (slice_get buckets (pointer initial (length buckets)))) false
