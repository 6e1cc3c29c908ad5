-- The limits of a file
use Rattle.std.specs.Prelude.{ℕ, ◌≤◌}

-- the most buckets that a file begins with
abbrev pub most_initial : ℕ
most_initial = 256

-- the most records in a page
abbrev pub most_capacity : ℕ
most_capacity = 24

-- the load threshold is at least and at most this many percent
abbrev pub least_load : ℕ
least_load = 10

abbrev pub most_load : ℕ
most_load = 200

-- the most buckets of a file
abbrev pub most_buckets : ℕ
most_buckets = 65536

-- the greatest level: that of a file that began with 1 bucket and has the most
abbrev pub most_level : ℕ
most_level = 16

-- a file begins with 1 bucket or more
abbrev pub IsInitial : ℕ → Type 0
IsInitial initial = (1 ≤ initial) × (initial ≤ most_initial)

-- a page holds 1 record or more
abbrev pub IsCapacity : ℕ → Type 0
IsCapacity capacity = (1 ≤ capacity) × (capacity ≤ most_capacity)

-- the load threshold
abbrev pub IsLoad : ℕ → Type 0
IsLoad load = (least_load ≤ load) × (load ≤ most_load)

-- a file that began with `initial` buckets has at least this many
abbrev pub IsSize : ℕ → ℕ → Type 0
IsSize initial buckets = (initial ≤ buckets) × (buckets ≤ most_buckets)
