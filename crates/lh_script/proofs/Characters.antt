-- Printable words, character by character.
use Rattle.std.proofs.Common.{◌≡◌, ◌==◌, ◌&&◌, ℕ, ◌+◌, ◌-◌, ◌*◌, ◌/◌, ◌%◌, ◌<◌, ◌≤◌, zero, suc, Bool, true, false, List}
use Rattle.std.proofs.Common.{[]}
use Rattle.std.proofs.Common.{◌∷◌, ◌++◌, Option, None, Some, length, take, drop, flat_map, refl, ap, sym, subst, ◌∙◌}
use Rattle.std.proofs.Common.{arith, get_or, append_assoc, append-nil, length-append, set}
use Rattle.std.specs.Prelude.{codes, nat_le, nat_lt, not}
use Rattle.std.specs.List.{list_all}
use Rattle.std.specs.Option.{option_map}
use Rattle.std.specs.Str.{IsAscii, IsUtf8}
use Rattle.std.proofs.lemmas.Bool.{and_parts, ltb-true}
use Rattle.std.proofs.lemmas.Bool.Decides.{nat_tests}
use Rattle.std.proofs.lemmas.Str.{IsUtf8-from_ascii}
use Rattle.std.proofs.lemmas.Str.Ascii.{IsAscii-nil, IsAscii-cons}
use Rattle.hex.specs.Hex.{encode_lower, encode_with, lower_digits}
use Rattle.hex.proofs.HexLemmas.{IsAscii-encode_with}
use Rattle.lh_script.specs.Hexadecimal.{is_dash}
use Rattle.lh_script.specs.Lines.{is_word}
use Rattle.lh_script.specs.PlainTexts.{character, characters, escaped, in_front, is_literal, lower_digit, of_digits}
use Rattle.lh_script.specs.PlainTexts.{plain_bytes, plain_text, unless_literal}

-- ---- reading

-- a character that is written as it is stands for itself
pub literal_first : (xs : List ℕ) → 0 < length xs → is_literal (get_or xs 0 0) ≡ true →
    characters xs ≡ in_front (Some (get_or xs 0 0)) (characters (drop 1 xs))
unfolding characters
literal_first [] lt e = absurd (omega arith)
literal_first (c ∷ []) lt e = rw e refl
literal_first (c ∷ d ∷ []) lt e = rw e refl
literal_first (c ∷ d ∷ e ∷ cs) lt p = rw p refl

-- any other needs two more behind it
pub short_escape : (xs : List ℕ) → 0 < length xs → length xs < 3 → is_literal (get_or xs 0 0) ≡ false →
    characters xs ≡ None
unfolding characters
short_escape [] lt l p = absurd (omega arith)
short_escape (c ∷ []) lt l p = rw p refl
short_escape (c ∷ d ∷ []) lt l p = rw p refl
short_escape (c ∷ d ∷ e ∷ cs) lt l p = absurd (omega arith)

-- and stands with them for the byte of an escape, if it is one
pub escape_first : (xs : List ℕ) → 2 < length xs → is_literal (get_or xs 0 0) ≡ false →
    characters xs
    ≡ in_front (escaped (get_or xs 0 0) (get_or xs 1 0) (get_or xs 2 0)) (characters (drop 3 xs))
unfolding characters
escape_first [] lt p = absurd (omega arith)
escape_first (c ∷ []) lt p = absurd (omega arith)
escape_first (c ∷ d ∷ []) lt p = absurd (omega arith)
escape_first (c ∷ d ∷ e ∷ cs) lt p = rw p refl

-- bytes before those of some characters, if these have some
abbrev pub bytes_behind : List ℕ → Option (List ℕ) → Option (List ℕ)
bytes_behind front r = option_map (λ bytes. front ++ bytes) r

-- a number of bytes more than those of some characters, if these have some
abbrev pub count_behind : ℕ → Option (List ℕ) → Option ℕ
count_behind n r = option_map (λ m. n + m) (option_map (length {A = ℕ}) r)

-- nothing is left to count
pub count_ends : (all : Option ℕ) (rest : List ℕ) (n : ℕ) → all ≡ count_behind n (characters rest) →
    length rest ≡ 0 → all ≡ Some n
unfolding characters
count_ends all [] n h e = let same : n + 0 ≡ n = omega arith in h ∙ ap (λ m. Some m) same
count_ends all (c ∷ cs) n h e = absurd (omega arith)

-- nothing is left to write
pub bytes_end : (all : Option (List ℕ)) (out rest : List ℕ) (i : ℕ) →
    all ≡ bytes_behind (take i out) (characters rest) → length rest ≡ 0 → all ≡ Some (take i out)
unfolding characters
bytes_end all out [] i h e = h ∙ ap (λ m. Some m) (append-nil (take i out))
bytes_end all out (c ∷ cs) i h e = absurd (omega arith)

pub ruleset characters_end = (count_ends, bytes_end)

-- an empty word stands for nothing
pub plain_none : (xs : List ℕ) → length xs ≡ 0 → plain_bytes xs ≡ None
unfolding plain_bytes
plain_none [] e = refl
plain_none (c ∷ cs) e = absurd (omega arith)

-- a dash for no bytes
pub plain_dash : (xs : List ℕ) → is_dash xs ≡ true → plain_bytes xs ≡ Some []
unfolding plain_bytes
plain_dash [] e = let bad : false ≡ true = e in cc
plain_dash (c ∷ cs) e = rw e refl

-- the digits of a dash for one
pub plain_escaped_dash : (xs : List ℕ) → is_dash xs ≡ false → is_word xs (codes "\\2d") ≡ true →
    plain_bytes xs ≡ Some (45 ∷ [])
unfolding plain_bytes
plain_escaped_dash [] e f = let bad : false ≡ true = f in cc
plain_escaped_dash (c ∷ cs) e f = rw (e, f) refl

-- which is written to the front of some room
pub dash_put : (room : List ℕ) → 1 ≤ length room → take 1 (set room 0 45) ≡ 45 ∷ []
dash_put [] le = absurd (omega arith)
dash_put (x ∷ xs) le = refl

-- and any other word for the bytes of its characters
pub plain_characters : (xs : List ℕ) → 0 < length xs → is_dash xs ≡ false → is_word xs (codes "\\2d") ≡ false →
    plain_bytes xs ≡ characters xs
unfolding plain_bytes
plain_characters [] lt e f = absurd (omega arith)
plain_characters (c ∷ cs) lt e f = rw (e, f) refl

-- ---- writing

-- three characters behind the first of some room
pub three_more : (a b c d : List ℕ) (byte high low : ℕ) → is_literal byte ≡ false → b ≡ a ++ 92 ∷ [] →
    c ≡ b ++ high ∷ [] → d ≡ c ++ low ∷ [] → high ≡ get_or lower_digits (byte / 16) 0 →
    low ≡ get_or lower_digits (byte % 16) 0 → d ≡ a ++ character byte
unfolding character encode_with
three_more a b c d byte high low p eb ec ed eh el =
    let together : d ≡ a ++ 92 ∷ high ∷ low ∷ [] =
    ed ∙ ap (λ x. x ++ low ∷ []) (ec ∙ ap (λ x. x ++ high ∷ []) eb)
    ∙ append_assoc (a ++ 92 ∷ []) (high ∷ []) (low ∷ [])
    ∙ append_assoc a (92 ∷ []) (high ∷ low ∷ []) in
    let digits : 92 ∷ high ∷ low ∷ [] ≡ character byte = rw (p, eh, el) refl in
    together ∙ ap (λ x. a ++ x) digits

-- a character behind the first of some room
pub one_more : (a b : List ℕ) (byte : ℕ) → is_literal byte ≡ true → b ≡ a ++ byte ∷ [] → b ≡ a ++ character byte
unfolding character
one_more a b byte p e = e ∙ rw p refl

-- a byte that is written as it is, is ASCII
literal_small : (c : ℕ) → is_literal c ≡ true → c < 128
unfolding is_literal
literal_small c h =
    let upper = (and_parts (nat_le c 126) (not (c == 92)) (and_parts (nat_le 33 c) _ h).1).0 in
    grind (arith, nat_tests)

IsAscii-append : (xs ys : List ℕ) → IsAscii xs → IsAscii ys → IsAscii (xs ++ ys)
IsAscii-append [] ys h k = k
IsAscii-append (x ∷ xs) ys h k = IsAscii-cons x (xs ++ ys) (h 0) (IsAscii-append xs ys (λ i. h (suc i)) k)

all_below : (xs : List ℕ) → list_all (λ x. nat_lt x 128) xs ≡ true → IsAscii xs
all_below [] h = IsAscii-nil
all_below (x ∷ xs) h =
    let parts = and_parts (nat_lt x 128) (list_all (λ y. nat_lt y 128) xs) h in
    IsAscii-cons x xs (ltb-true x 128 parts.0) (all_below xs parts.1)

character_ascii : (b : Bool) (c : ℕ) → is_literal c ≡ b → IsAscii (character c)
unfolding character
character_ascii true c e =
    let is : character c ≡ c ∷ [] = rw e refl in
    subst IsAscii (sym is) (IsAscii-cons c [] (literal_small c e) IsAscii-nil)
character_ascii false c e =
    let is : character c ≡ 92 ∷ encode_lower (c ∷ []) = rw e refl in
    subst IsAscii (sym is)
    (IsAscii-cons 92 (encode_lower (c ∷ [])) (omega arith)
    (IsAscii-encode_with lower_digits (c ∷ []) (all_below lower_digits refl)))

characters_ascii : (bytes : List ℕ) → IsAscii (flat_map character bytes)
characters_ascii [] = IsAscii-nil
characters_ascii (b ∷ bytes) =
    IsAscii-append (character b) (flat_map character bytes) (character_ascii (is_literal b) b refl)
    (characters_ascii bytes)

-- bytes as they are written are UTF-8
pub characters_utf8 : (bytes : List ℕ) → IsUtf8 (flat_map character bytes)
characters_utf8 bytes = IsUtf8-from_ascii (flat_map character bytes) (characters_ascii bytes)

-- the word of no bytes
pub text_none : (xs : List ℕ) → length xs ≡ 0 → plain_text xs ≡ codes "-"
unfolding plain_text
text_none [] e = refl
text_none (c ∷ cs) e = absurd (omega arith)

-- of a dash
pub text_dash : (xs : List ℕ) → is_dash xs ≡ true → plain_text xs ≡ codes "\\2d"
unfolding plain_text
text_dash [] e = let bad : false ≡ true = e in cc
text_dash (c ∷ cs) e = rw e refl

-- and of any others
pub text_characters : (xs : List ℕ) → 0 < length xs → is_dash xs ≡ false → plain_text xs ≡ flat_map character xs
unfolding plain_text
text_characters [] lt e = absurd (omega arith)
text_characters (c ∷ cs) lt e = rw e refl
