-- Hexadecimal digits are text.
use Rattle.std.proofs.Common.{◌≡◌, ℕ, true, List, [], ◌∷◌, refl}
use Rattle.std.specs.Prelude.{nat_lt}
use Rattle.std.specs.List.{list_all}
use Rattle.std.specs.Str.{IsAscii, IsUtf8}
use Rattle.std.proofs.lemmas.Bool.{and_parts, ltb-true}
use Rattle.std.proofs.lemmas.Str.{IsUtf8-from_ascii}
use Rattle.std.proofs.lemmas.Str.Ascii.{IsAscii-nil, IsAscii-cons}
use Rattle.hex.specs.Hex.{encode_lower, lower_digits}
use Rattle.hex.proofs.HexLemmas.{IsAscii-encode_with}

IsAscii-from_test : (bytes : List ℕ) → list_all (λ byte. nat_lt byte 128) bytes ≡ true → IsAscii bytes
IsAscii-from_test [] h = IsAscii-nil
IsAscii-from_test (byte ∷ bytes) h =
    let parts = and_parts (nat_lt byte 128) (list_all (λ byte. nat_lt byte 128) bytes) h in
    IsAscii-cons byte bytes (ltb-true byte 128 parts.0) (IsAscii-from_test bytes parts.1)

-- bytes written in hexadecimal digits are UTF-8
pub IsUtf8-encode_lower : (bytes : List ℕ) → IsUtf8 (encode_lower bytes)
IsUtf8-encode_lower bytes =
    IsUtf8-from_ascii (encode_lower bytes)
    (IsAscii-encode_with lower_digits bytes (IsAscii-from_test lower_digits refl))
