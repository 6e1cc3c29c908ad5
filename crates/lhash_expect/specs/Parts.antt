-- Parts of what was written
use Rattle.std.specs.Prelude.{ℕ, Bool, List, drop, length, map, nat_eq}
use Rattle.std.specs.List.{count_by, range_with_len, starts_with}

-- whether a part stands in some bytes, from a place on
abbrev pub is_part_at : List ℕ → List ℕ → ℕ → Bool
is_part_at part bytes place = starts_with nat_eq (drop place bytes) part

-- at how many of the first places of some bytes a part stands
abbrev pub times_at_first : List ℕ → List ℕ → ℕ → ℕ
times_at_first part bytes places = count_by (λ is. is) (map (is_part_at part bytes) (range_with_len 0 places))

-- at how many places of some bytes a part stands
abbrev pub times_in : List ℕ → List ℕ → ℕ
times_in part bytes = times_at_first part bytes (length bytes)
