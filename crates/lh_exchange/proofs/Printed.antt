-- Printed texts, byte by byte.
use Rattle.std.proofs.Common.{◌≡◌, ◌≢◌, ◌==◌, ℕ, ◌+◌, ◌*◌, ◌/◌, ◌%◌, ◌<◌, Bool, true, false, List, [], ◌∷◌, ◌++◌}
use Rattle.std.proofs.Common.{Option, None, Some, length, take, drop, refl, ap, sym, ◌∙◌, arith, get_or, append-nil}
use Rattle.std.specs.Option.{option_map}
use Rattle.std.proofs.lemmas.Bool.Decides.{nat_tests}
use Rattle.hex.specs.Hex.{encode_lower, encode_with, hex_digit_value, lower_digits}
use Rattle.hex.proofs.HexLemmas.{IsDigits-lower_digits}
use Rattle.lh_exchange.specs.DbTexts.{byte_before, byte_of_digits, is_plain, printed}

-- a plain byte stands for itself
pub plain_first : (xs : List ℕ) → 0 < length xs → is_plain (get_or xs 0 0) ≡ true →
    printed xs ≡ byte_before (Some (get_or xs 0 0)) (printed (drop 1 xs))
unfolding printed
plain_first [] lt e = absurd (omega arith)
plain_first (c ∷ []) lt e = rw e refl
plain_first (c ∷ d ∷ []) lt e = rw e refl
plain_first (c ∷ d ∷ e ∷ cs) lt p = rw p refl

other_than : (b : Bool) (c : ℕ) → (c == 92) ≡ b → c ≢ 92 → b ≡ false
other_than true c e h = absurd (h (grind (arith, nat_tests)))
other_than false c e h = refl

neither : (b : Bool) (c d e : ℕ) (cs : List ℕ) → (d == 92) ≡ b → (c == 92) ≡ false → is_plain c ≡ false →
    printed (c ∷ d ∷ e ∷ cs) ≡ None
unfolding printed
neither true c d e cs k h p = rw (p, h, k) refl
neither false c d e cs k h p = rw (p, h, k) refl

-- a byte that is neither plain nor a backslash stands for nothing
pub not_escaped : (xs : List ℕ) → 0 < length xs → is_plain (get_or xs 0 0) ≡ false → get_or xs 0 0 ≢ 92 →
    printed xs ≡ None
unfolding printed
not_escaped [] lt p h = absurd (omega arith)
not_escaped (c ∷ []) lt p h = rw p refl
not_escaped (c ∷ d ∷ []) lt p h = rw (p, other_than (c == 92) c refl h) refl
not_escaped (c ∷ d ∷ e ∷ cs) lt p h = neither (d == 92) c d e cs refl (other_than (c == 92) c refl h) p

-- nor does a backslash at the end
pub lone_backslash : (xs : List ℕ) → 0 < length xs → length xs < 2 → is_plain (get_or xs 0 0) ≡ false →
    printed xs ≡ None
unfolding printed
lone_backslash [] lt l p = absurd (omega arith)
lone_backslash (c ∷ []) lt l p = rw p refl
lone_backslash (c ∷ d ∷ cs) lt l p = absurd (omega arith)

-- two backslashes are one
pub two_backslashes : (xs : List ℕ) → 1 < length xs → get_or xs 0 0 ≡ 92 → get_or xs 1 0 ≡ 92 →
    printed xs ≡ byte_before (Some 92) (printed (drop 2 xs))
unfolding printed
two_backslashes [] lt e f = absurd (omega arith)
two_backslashes (c ∷ []) lt e f = absurd (omega arith)
two_backslashes (c ∷ d ∷ []) lt e f = rw (e, f) refl
two_backslashes (c ∷ d ∷ e ∷ cs) lt k f = rw (k, f) refl

-- a backslash in front of one other byte stands for nothing
pub short_escape : (xs : List ℕ) → 1 < length xs → length xs < 3 → get_or xs 0 0 ≡ 92 → get_or xs 1 0 ≢ 92 →
    printed xs ≡ None
unfolding printed
short_escape [] lt l e h = absurd (omega arith)
short_escape (c ∷ []) lt l e h = absurd (omega arith)
short_escape (c ∷ d ∷ []) lt l e h = rw (e, other_than (d == 92) d refl h) refl
short_escape (c ∷ d ∷ e ∷ cs) lt l k h = absurd (omega arith)

-- a backslash in front of others stands for the byte of two digits, if they are such
pub escape : (xs : List ℕ) → 2 < length xs → get_or xs 0 0 ≡ 92 → get_or xs 1 0 ≢ 92 →
    printed xs ≡ byte_before (byte_of_digits (hex_digit_value (get_or xs 1 0)) (hex_digit_value (get_or xs 2 0)))
    (printed (drop 3 xs))
unfolding printed
escape [] lt e h = absurd (omega arith)
escape (c ∷ []) lt e h = absurd (omega arith)
escape (c ∷ d ∷ []) lt e h = absurd (omega arith)
escape (c ∷ d ∷ e ∷ cs) lt k h = rw (k, other_than (d == 92) d refl h) refl

pub ruleset escapes = (not_escaped, lone_backslash, short_escape)

-- the loop over a text

-- bytes before those of a text, if it has some
abbrev pub behind_bytes : List ℕ → Option (List ℕ) → Option (List ℕ)
behind_bytes front r = option_map (λ bytes. front ++ bytes) r

-- a number of bytes more than those of a text, if it has some
abbrev pub count_more : ℕ → Option (List ℕ) → Option ℕ
count_more n r = option_map (λ m. n + m) (option_map (length {A = ℕ}) r)

-- nothing is left to count
pub count_ends : (all : Option ℕ) (rest : List ℕ) (n : ℕ) → all ≡ count_more n (printed rest) → length rest ≡ 0 →
    all ≡ Some n
unfolding printed
count_ends all [] n h e = let same : n + 0 ≡ n = omega arith in h ∙ ap (λ m. Some m) same
count_ends all (c ∷ cs) n h e = absurd (omega arith)

-- nothing is left to write
pub printed_ends : (all : Option (List ℕ)) (out rest : List ℕ) (i : ℕ) →
    all ≡ behind_bytes (take i out) (printed rest) → length rest ≡ 0 → all ≡ Some (take i out)
unfolding printed
printed_ends all out [] i h e = h ∙ ap (λ m. Some m) (append-nil (take i out))
printed_ends all out (c ∷ cs) i h e = absurd (omega arith)

pub ruleset text_ends = (count_ends, printed_ends)

-- every escape

no_backslash : (b : Bool) (c d : ℕ) → (c == 92) ≡ b → hex_digit_value c ≡ Some d → b ≡ false
no_backslash true c d e h =
    let same : c ≡ 92 = grind (arith, nat_tests) in
    let bad : None ≡ Some d = ap hex_digit_value (sym same) ∙ h in
    absurd cc
no_backslash false c d e h = refl

-- a backslash and the two digits of a byte are that byte
pub escape_is_one_byte : (byte : ℕ) (text : List ℕ) → byte < 256 →
    printed (92 ∷ (encode_lower (byte ∷ []) ++ text)) ≡ byte_before (Some byte) (printed text)
unfolding printed encode_with
escape_is_one_byte byte text lt =
    let high = get_or lower_digits (byte / 16) 0 in
    let low = get_or lower_digits (byte % 16) 0 in
    let first : hex_digit_value high ≡ Some (byte / 16) = IsDigits-lower_digits (byte / 16) (omega arith) in
    let second : hex_digit_value low ≡ Some (byte % 16) = IsDigits-lower_digits (byte % 16) (omega arith) in
    let whole : byte / 16 * 16 + byte % 16 ≡ byte = omega arith in
    rw (no_backslash (high == 92) high (byte / 16) refl first, first, second, whole) refl
