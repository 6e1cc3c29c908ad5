-- What is kept of a line
use Rattle.std.specs.Prelude.{ℕ, List, length, Option, None, Some, nat_lt, if◌then◌else◌}

-- a line has at most this many bytes before its LF
abbrev pub longest_line : ℕ
longest_line = 1024

-- what is kept of the bytes of a line: all of them, or none where there are too many
abbrev pub kept : List ℕ → Option (List ℕ)
kept line = if nat_lt longest_line (length line) then None else Some line
