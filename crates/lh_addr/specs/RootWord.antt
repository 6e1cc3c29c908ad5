-- The root of a running file, coded in one word
use Rattle.std.specs.Prelude.{ℕ, ◌+◌, ◌*◌, ◌/◌, ◌%◌, Bool, ◌==◌, if◌then◌else◌}

-- twice the number of buckets, and one more while a caller has the right to split
abbrev pub root_word : ℕ → Bool → ℕ
root_word buckets split = 2 * buckets + (if split then 1 else 0)

-- the number of buckets that a word tells
abbrev pub buckets_of : ℕ → ℕ
buckets_of word = word / 2

-- whether a caller has the right to split, by what a word tells
abbrev pub split_of : ℕ → Bool
split_of word = word % 2 == 1
