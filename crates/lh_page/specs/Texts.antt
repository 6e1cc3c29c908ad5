-- Keys and values as texts
use Rattle.std.specs.Prelude.{ℕ, List, [], ◌∷◌, codes}
use Rattle.hex.specs.Hex.{encode_lower}

-- bytes as pairs of lower-case hexadecimal digits, or `-` for none
abbrev pub hexadecimal_text : List ℕ → List ℕ
hexadecimal_text [] = codes "-"
hexadecimal_text (byte ∷ bytes) = encode_lower (byte ∷ bytes)
