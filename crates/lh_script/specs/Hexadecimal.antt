-- Byte strings as words: pairs of hexadecimal digits, or `-` for none.
use Rattle.std.specs.Prelude.{ℕ, ◌+◌, ◌-◌, ◌*◌, ◌==◌, ◌&&◌, Bool, false, if◌then◌else◌, nat_le, List, [], ◌∷◌, Option}
use Rattle.std.specs.Prelude.{None, Some}

-- the value of a digit: 0 to 9 have the codes from 48, A to F those from 65, a to f those from 97
unfoldable pub digit : ℕ → Option ℕ
digit c =
    if nat_le 48 c && nat_le c 57 then Some (c - 48)
    else (if nat_le 65 c && nat_le c 70 then Some (c - 55)
    else (if nat_le 97 c && nat_le c 102 then Some (c - 87) else None))

-- the byte of two digits before further bytes, where all of them are there
abbrev pub with_byte : Option ℕ → Option ℕ → Option (List ℕ) → Option (List ℕ)
with_byte (Some high) (Some low) (Some bytes) = Some ((16 * high + low) ∷ bytes)
with_byte _ _ _ = None

-- the bytes of pairs of digits
unfoldable pub pairs : List ℕ → Option (List ℕ)
pairs [] = Some []
pairs (c ∷ []) = None
pairs (c ∷ d ∷ cs) = with_byte (digit c) (digit d) (pairs cs)

-- whether a word is `-`, 45
abbrev pub is_dash : List ℕ → Bool
is_dash [] = false
is_dash (c ∷ []) = c == 45
is_dash (c ∷ d ∷ cs) = false

-- the bytes that a word stands for
abbrev pub hexadecimal_bytes : List ℕ → Option (List ℕ)
hexadecimal_bytes word = if is_dash word then Some [] else pairs word
