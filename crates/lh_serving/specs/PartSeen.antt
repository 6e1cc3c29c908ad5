-- A line that has come in part, as its bytes and a mark
use Rattle.std.specs.Prelude.{ℕ, ◌≤◌, List, Option, None, Some, if◌then◌else◌, vec_capacity, vec_len}
use Rattle.lh_serving.specs.Parts.{longest_line}
use Rattle.lh_serving.specs.declared.part.LinePart.TheInside.{Inside}

-- its bytes, unless they are too many
abbrev pub part_seen : Inside → Option (List ℕ)
part_seen part = if part.is_too_long then None else Some part.bytes.items

-- there is room for the longest line
abbrev pub HasLineRoom : Inside → Type 0
HasLineRoom part = (longest_line ≤ vec_capacity part.bytes) × (vec_len part.bytes ≤ longest_line)
