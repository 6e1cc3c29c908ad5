-- The lines of a stream.
use Rattle.std.specs.Prelude.{ℕ, ◌==◌, Bool, if◌then◌else◌, nat_eq, List, [], ◌∷◌, Option, None, Some}
use Rattle.std.specs.Cmp.Lexicographic.{pointwise}

-- a byte in front of the line that was cut off
abbrev pub onto_line : ℕ → Option (List ℕ × List ℕ) → Option (List ℕ × List ℕ)
onto_line c None = None
onto_line c (Some cut) = Some (c ∷ cut.0, cut.1)

-- the first line, without its LF, 10, and what stands behind it, if there is an LF
unfoldable pub whole_line : List ℕ → Option (List ℕ × List ℕ)
whole_line [] = None
whole_line (c ∷ cs) = if c == 10 then Some ([], cs) else onto_line c (whole_line cs)

-- whether a line is this one
abbrev pub is_line : List ℕ → List ℕ → Bool
is_line = pointwise nat_eq
