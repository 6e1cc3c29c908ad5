-- What a key, a value and the records of a page may be.
use Rattle.std.specs.Prelude.{ℕ, ◌≤◌, List, length}

-- the most bytes of a key
abbrev pub longest_key : ℕ
longest_key = 56

-- the most bytes of a value
abbrev pub longest_value : ℕ
longest_value = 112

-- the most records of a page
abbrev pub largest_page : ℕ
largest_page = 24

-- a key has at least one byte, and at most as many as the longest
abbrev pub IsKey : List ℕ → Type 0
IsKey key = (1 ≤ length key) × (length key ≤ longest_key)

-- a value has at most as many bytes as the longest
abbrev pub IsValue : List ℕ → Type 0
IsValue value = length value ≤ longest_value

-- a page has room for at least one record, and for at most as many as the largest
abbrev pub IsPageCapacity : ℕ → Type 0
IsPageCapacity b = (1 ≤ b) × (b ≤ largest_page)
