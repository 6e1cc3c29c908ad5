-- Keys and values as lines of a db stream.
use Rattle.std.specs.Prelude.{ℕ, ◌+◌, ◌*◌, ◌==◌, ◌&&◌, ◌||◌, Bool, not, if◌then◌else◌, nat_le, nat_lt, List, [], ◌∷◌}
use Rattle.std.specs.Prelude.{length, Option, None, Some, Result, Ok, Err}
use Rattle.std.specs.Option.{option_map}
use Rattle.std.specs.Result.{result_ok}
use Rattle.hex.specs.Hex.{decode_of, hex_digit_value}
use Rattle.lh_page.specs.Limits.{longest_key, longest_value}
use Rattle.lh_exchange.specs.declared.fault.StreamFault.{StreamFault}
use Rattle.lh_exchange.specs.declared.fault.StreamFault.TheVariants.{KeyLength, NotARecord, NotAValue, ValueLength}
use Rattle.lh_exchange.specs.declared.layout.Layout.{Layout}
use Rattle.lh_exchange.specs.declared.layout.Layout.TheVariants.{Bytevalue, Cdb, Print}

-- a byte that stands for itself: printable ASCII, 32 to 126, but for the backslash, 92
abbrev pub is_plain : ℕ → Bool
is_plain c = nat_le 32 c && (nat_le c 126 && not (c == 92))

-- a byte in front of others, where both are there
abbrev pub byte_before : Option ℕ → Option (List ℕ) → Option (List ℕ)
byte_before None bytes = None
byte_before (Some b) bytes = option_map (λ bs. b ∷ bs) bytes

-- the byte of two hexadecimal digits
abbrev pub byte_of_digits : Option ℕ → Option ℕ → Option ℕ
byte_of_digits (Some high) (Some low) = Some (high * 16 + low)
byte_of_digits _ _ = None

-- the byte that two characters stand for where a backslash is the first
abbrev pub escaped_backslash : ℕ → ℕ → Option ℕ
escaped_backslash c d = if (c == 92) && (d == 92) then Some 92 else None

-- the byte that three characters stand for where a backslash is the first, and digits are the others
abbrev pub escaped_byte : ℕ → ℕ → ℕ → Option ℕ
escaped_byte c d e = if c == 92 then byte_of_digits (hex_digit_value d) (hex_digit_value e) else None

-- the bytes of a printed text: a plain byte is itself, `\\` a backslash, and `\` with two digits the byte of these
unfoldable pub printed : List ℕ → Option (List ℕ)
printed [] = Some []
printed (c ∷ []) = if is_plain c then Some (c ∷ []) else None
printed (c ∷ d ∷ []) =
    if is_plain c then byte_before (Some c) (printed (d ∷ [])) else byte_before (escaped_backslash c d) (Some [])
printed (c ∷ d ∷ e ∷ cs) =
    if is_plain c then byte_before (Some c) (printed (d ∷ e ∷ cs))
    else (if d == 92 then byte_before (escaped_backslash c d) (printed (e ∷ cs))
    else byte_before (escaped_byte c d e) (printed cs))

-- the bytes that a text stands for: pairs of digits in either case, or printed
unfoldable pub text_bytes : Layout → List ℕ → Option (List ℕ)
text_bytes Cdb text = None
text_bytes Bytevalue text = result_ok (decode_of text)
text_bytes Print text = printed text

-- the bytes of a line: a blank, 32, stands in front of their text
abbrev pub line_bytes : Layout → List ℕ → Option (List ℕ)
line_bytes layout [] = None
line_bytes layout (c ∷ text) = if c == 32 then text_bytes layout text else None

-- a key has at least one byte, and at most as many as the longest
abbrev pub key_of_bytes : Option (List ℕ) → Result (List ℕ) StreamFault
key_of_bytes None = Err NotARecord
key_of_bytes (Some k) =
    if (length k == 0) || nat_lt longest_key (length k) then Err (KeyLength (length k)) else Ok k

-- a value has at most as many bytes as the longest
abbrev pub value_of_bytes : Option (List ℕ) → Result (List ℕ) StreamFault
value_of_bytes None = Err NotAValue
value_of_bytes (Some v) = if nat_lt longest_value (length v) then Err (ValueLength (length v)) else Ok v

-- the key of a line
abbrev pub line_key : Layout → List ℕ → Result (List ℕ) StreamFault
line_key layout line = key_of_bytes (line_bytes layout line)

-- the value of a line
abbrev pub line_value : Layout → List ℕ → Result (List ℕ) StreamFault
line_value layout line = value_of_bytes (line_bytes layout line)
