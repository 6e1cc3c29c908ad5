-- Records as cdb has them: `+`, the lengths of key and value, each in front of its mark, then both, and LF.
use Rattle.std.specs.Prelude.{ℕ, ◌+◌, ◌-◌, ◌*◌, ◌^◌, ◌==◌, ◌&&◌, ◌||◌, Bool, if◌then◌else◌, nat_lt, nat_le, List, []}
use Rattle.std.specs.Prelude.{◌∷◌}
use Rattle.std.specs.Prelude.{length, take, drop, slice_index, Option, None, Some, Ok, Err}
use Rattle.lh_page.specs.Limits.{longest_key, longest_value}
use Rattle.lh_page.specs.declared.pair.Pair.{Pair}
use Rattle.lh_exchange.specs.StreamParts.{Front, Next, at_end, read_then}
use Rattle.lh_exchange.specs.declared.fault.StreamFault.TheVariants.{KeyLength, NoEnd, NotARecord, ValueLength}

-- 0 to 9 have the codes from 48
abbrev pub is_decimal_digit : ℕ → Bool
is_decimal_digit c = nat_le 48 c && nat_le c 57

-- the number that one more digit makes, where it is below 2 ^ 64; behind a single 0 stands no other digit
unfoldable pub with_digit : ℕ → ℕ → Option ℕ
with_digit n c =
    if nat_lt 0 n && (is_decimal_digit c && nat_lt (10 * n + (c - 48)) (2 ^ 64)) then Some (10 * n + (c - 48)) else None

-- what is read behind a number, if it is one
abbrev pub behind_number : {A : Type 0} → Option ℕ → (ℕ → Front A) → Front A
behind_number None read = Err NotARecord
behind_number (Some n) read = read n

-- the number that begins with the digits of another and goes on up to a mark, and what stands behind the mark
unfoldable pub number_until : ℕ → ℕ → List ℕ → Front ℕ
number_until mark n [] = Err NoEnd
number_until mark n (c ∷ cs) =
    if c == mark then Ok (n, cs) else behind_number (with_digit n c) (λ m. number_until mark m cs)

-- a length in front of a mark, and what stands behind the mark: at least one digit
unfoldable pub length_until : ℕ → List ℕ → Front ℕ
length_until mark [] = Err NoEnd
length_until mark (c ∷ cs) = if is_decimal_digit c then number_until mark (c - 48) cs else Err NotARecord

-- whether `->`, 45 and 62, stands behind a key, and LF, 10, behind the value
abbrev pub is_framed : ℕ → ℕ → List ℕ → Bool
is_framed key value bytes =
    (slice_index bytes key == 45)
    && ((slice_index bytes (key + 1) == 62) && (slice_index bytes (key + 2 + value) == 10))

-- a key and a value of these lengths, with `->` between them and LF behind them, and what stands behind that
unfoldable pub framed_pair : ℕ → ℕ → List ℕ → Front Pair
framed_pair key value bytes =
    if nat_lt (length bytes) (key + value + 3) then Err NoEnd
    else (if is_framed key value bytes then
    Ok (record { key = take key bytes; value = take value (drop (key + 2) bytes) }, drop (key + value + 3) bytes)
    else Err NotARecord)

-- the same, unless no key or no value has such a length
unfoldable pub pair_of_lengths : ℕ → ℕ → List ℕ → Front Pair
pair_of_lengths key value bytes =
    if (key == 0) || nat_lt longest_key key then Err (KeyLength key)
    else (if nat_lt longest_value value then Err (ValueLength value) else framed_pair key value bytes)

-- the record behind `+`, and what stands behind it: `,`, 44, stands behind the first length, `:`, 58, behind the second
unfoldable pub cdb_record : List ℕ → Front Pair
cdb_record bytes =
    read_then (length_until 44 bytes) (λ key.
    read_then (length_until 58 key.1) (λ value. pair_of_lengths key.0 value.0 value.1))

-- a record is the next, with what stands behind it
abbrev pub as_next : Front Pair → Next
as_next front = read_then front (λ x. Ok (Some x))

-- a stream ends with an empty line, LF, 10, and a record begins with `+`, 43
unfoldable pub next_cdb : List ℕ → Next
next_cdb [] = Err NoEnd
next_cdb (c ∷ cs) = if c == 10 then at_end cs else (if c == 43 then as_next (cdb_record cs) else Err NotARecord)
