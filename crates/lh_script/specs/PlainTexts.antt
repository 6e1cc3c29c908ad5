-- Byte strings as printable words: most bytes as they are, the others by their digits, and `-` for none.
use Rattle.std.specs.Prelude.{ℕ, ◌+◌, ◌-◌, ◌*◌, ◌==◌, ◌&&◌, Bool, not, if◌then◌else◌, nat_le, List, [], ◌∷◌, flat_map}
use Rattle.std.specs.Prelude.{codes, Option, None, Some}
use Rattle.std.specs.Option.{option_map}
use Rattle.hex.specs.Hex.{encode_lower}
use Rattle.lh_script.specs.Hexadecimal.{is_dash}
use Rattle.lh_script.specs.Lines.{is_word}

-- ---- writing

-- a byte that is written as it is: printable ASCII from 33 to 126, but for the backslash, 92
unfoldable pub is_literal : ℕ → Bool
is_literal c = nat_le 33 c && (nat_le c 126 && not (c == 92))

-- a byte as it is, or a backslash and its two digits
unfoldable pub character : ℕ → List ℕ
character c = if is_literal c then c ∷ [] else 92 ∷ encode_lower (c ∷ [])

-- the word of some bytes: `-` for none; a single `-`, 45, is told apart by its digits
unfoldable pub plain_text : List ℕ → List ℕ
plain_text [] = codes "-"
plain_text (c ∷ cs) = if is_dash (c ∷ cs) then codes "\\2d" else flat_map character (c ∷ cs)

-- ---- reading

-- the value of a lower-case digit: 0 to 9 have the codes from 48, a to f those from 97
unfoldable pub lower_digit : ℕ → Option ℕ
lower_digit c =
    if nat_le 48 c && nat_le c 57 then Some (c - 48) else (if nat_le 97 c && nat_le c 102 then Some (c - 87) else None)

-- a byte that isn't written as it is
abbrev pub unless_literal : ℕ → Option ℕ
unless_literal c = if is_literal c then None else Some c

-- the byte of two digits, where it is written by them
abbrev pub of_digits : Option ℕ → Option ℕ → Option ℕ
of_digits (Some high) (Some low) = unless_literal (16 * high + low)
of_digits _ _ = None

-- the byte that three characters stand for, of which the first is a backslash
abbrev pub escaped : ℕ → ℕ → ℕ → Option ℕ
escaped c d e = if c == 92 then of_digits (lower_digit d) (lower_digit e) else None

-- a byte in front of others, where both are there
abbrev pub in_front : Option ℕ → Option (List ℕ) → Option (List ℕ)
in_front None bytes = None
in_front (Some b) bytes = option_map (λ bs. b ∷ bs) bytes

-- the bytes of some characters: one that is written as it is stands for itself, and a backslash with two digits for the
-- byte that is written by them
unfoldable pub characters : List ℕ → Option (List ℕ)
characters [] = Some []
characters (c ∷ []) = if is_literal c then Some (c ∷ []) else None
characters (c ∷ d ∷ []) = if is_literal c then in_front (Some c) (characters (d ∷ [])) else None
characters (c ∷ d ∷ e ∷ cs) =
    if is_literal c then in_front (Some c) (characters (d ∷ e ∷ cs)) else in_front (escaped c d e) (characters cs)

-- the bytes that a word stands for
unfoldable pub plain_bytes : List ℕ → Option (List ℕ)
plain_bytes [] = None
plain_bytes (c ∷ cs) =
    if is_dash (c ∷ cs) then Some []
    else (if is_word (c ∷ cs) (codes "\\2d") then Some (45 ∷ []) else characters (c ∷ cs))
