-- The lines of a script, and the words of a line.
use Rattle.std.specs.Prelude.{◌≡◌, ℕ, ◌==◌, ◌&&◌, ◌||◌, Bool, true, false, if◌then◌else◌, nat_eq, List, [], ◌∷◌}
use Rattle.std.specs.Cmp.Lexicographic.{pointwise}

-- LF, 10, ends a line
unfoldable pub is_lf : ℕ → Bool
is_lf c = c == 10

-- whether an LF comes next
abbrev pub begins_with_lf : List ℕ → Bool
begins_with_lf [] = false
begins_with_lf (c ∷ cs) = is_lf c

-- the byte c at the front of the first of some lines or words
abbrev pub onto : ℕ → List (List ℕ) → List (List ℕ)
onto c [] = (c ∷ []) ∷ []
onto c (l ∷ ls) = (c ∷ l) ∷ ls

-- the lines of a text: one CR, 13, before an LF is dropped, a last line without LF counts,
-- and an empty rest after the last LF doesn't
unfoldable pub lines : List ℕ → List (List ℕ)
lines [] = []
lines (c ∷ cs) =
    if is_lf c then [] ∷ lines cs
    else (if c == 13 && begins_with_lf cs then lines cs else onto c (lines cs))

-- a line without the CR at its end, if there is one
abbrev pub without_last_cr : List ℕ → List ℕ
without_last_cr [] = []
without_last_cr (c ∷ []) = if c == 13 then [] else c ∷ []
without_last_cr (c ∷ d ∷ cs) = c ∷ without_last_cr (d ∷ cs)

-- space, 32, and tab, 9
unfoldable pub is_blank : ℕ → Bool
is_blank c = c == 32 || c == 9

-- whether a word ends before these bytes
abbrev pub ends_word : List ℕ → Bool
ends_word [] = true
ends_word (c ∷ cs) = is_blank c

-- the words of a line, which one or more blanks separate
unfoldable pub words : List ℕ → List (List ℕ)
words [] = []
words (c ∷ cs) =
    if is_blank c then words cs
    else (if ends_word cs then (c ∷ []) ∷ words cs else onto c (words cs))

-- whether a word is this one
abbrev pub is_word : List ℕ → List ℕ → Bool
is_word = pointwise nat_eq

-- whether a word begins a comment: its first byte is `#`, 35
abbrev pub is_comment : List ℕ → Bool
is_comment [] = false
is_comment (c ∷ cs) = c == 35

-- whether a line says nothing: it has no words, or is a comment
abbrev pub is_skipped : List (List ℕ) → Bool
is_skipped [] = true
is_skipped (word ∷ rest) = is_comment word

-- the words of a line that says something are its first word and the rest
abbrev pub IsStatement : List ℕ → List (List ℕ) → List (List ℕ) → Type 0
IsStatement word rest line = (line ≡ word ∷ rest) × (is_comment word ≡ false)
