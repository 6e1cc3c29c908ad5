-- Words that are written and read, and read and written.
use Rattle.std.proofs.Common.{◌≡◌, ◌≢◌, ◌==◌, ◌&&◌, ℕ, ◌+◌, ◌-◌, ◌*◌, ◌/◌, ◌%◌, ◌<◌, ◌≤◌, zero, suc, Bool, true, false}
use Rattle.std.proofs.Common.{List, [], ◌∷◌, ◌++◌, Option, None, Some, length, drop, flat_map, refl, ap, sym, subst}
use Rattle.std.proofs.Common.{◌∙◌}
use Rattle.std.proofs.Common.{arith, get_or, append-nil, length-append, cond, inl, inr}
use Rattle.std.specs.Prelude.{codes, nat_le, unwrap_or, if◌then◌else◌, nat_lt}
use Rattle.std.specs.List.{All}
use Rattle.std.specs.Option.{option_map}
use Rattle.std.specs.Cmp.Lexicographic.{bytes_decides}
use Rattle.std.proofs.lemmas.Bool.{and_parts, cases_lt, eqb-true}
use Rattle.std.proofs.lemmas.Bool.Decides.{nat_tests}
use Rattle.std.proofs.lemmas.List.Elements.{All-head, All-tail}
use Rattle.hex.specs.Hex.{encode_lower, encode_with, lower_digits}
use Rattle.hex.proofs.HexLemmas.{length-encode_with}
use Rattle.lh_page.specs.Texts.{hexadecimal_text}
use Rattle.lh_script.specs.Hexadecimal.{digit, hexadecimal_bytes, is_dash, pairs, with_byte}
use Rattle.lh_script.specs.Lines.{is_word}
use Rattle.lh_script.specs.NotationLaws.{ExactLaw, WordsReadBackLaw, ShortLaw}
use Rattle.lh_script.specs.Notations.{byte_string, byte_text}
use Rattle.lh_script.specs.PlainTexts.{character, characters, escaped, in_front, is_literal, lower_digit, of_digits}
use Rattle.lh_script.specs.PlainTexts.{plain_bytes, plain_text, unless_literal}
use Rattle.lh_script.specs.declared.notation.Notation.{Notation}
use Rattle.lh_script.specs.declared.notation.Notation.TheVariants.{Hexadecimal, Text}
use Rattle.lh_script.proofs.Characters.{escape_first, literal_first, plain_characters, short_escape, text_characters}

-- ---- digits

-- the first n digits pass a test
abbrev all_digits : (ℕ → ℕ → Bool) → ℕ → Bool
all_digits test zero = true
all_digits test (suc n) = test n (get_or lower_digits n 0) && all_digits test n

digit_passes : (test : ℕ → ℕ → Bool) (n k : ℕ) → all_digits test n ≡ true → k < n →
    test k (get_or lower_digits k 0) ≡ true
digit_passes test zero k h lt = absurd (omega arith)
digit_passes test (suc n) k h lt =
    let parts = and_parts (test n (get_or lower_digits n 0)) (all_digits test n) h in
    elim (cases_lt k n) [
      | inl below ↦ digit_passes test n k parts.1 below
      | inr top ↦
          let e : k ≡ n = omega arith in
          rw e parts.0
    ]

some_of : (o : Option ℕ) (d : ℕ) → d < 16 → unwrap_or o 99 ≡ d → o ≡ Some d
some_of (Some v) d lt e = ap Some e
some_of None d lt e = absurd (omega arith)

-- the digit of a value is read as the value
digit_read : (d : ℕ) → d < 16 → digit (get_or lower_digits d 0) ≡ Some d
unfolding digit
digit_read d lt =
    some_of (digit (get_or lower_digits d 0)) d lt
    (eqb-true (unwrap_or (digit (get_or lower_digits d 0)) 99) d
    (digit_passes (λ n c. unwrap_or (digit c) 99 == n) 16 d refl lt))

lower_read : (d : ℕ) → d < 16 → lower_digit (get_or lower_digits d 0) ≡ Some d
unfolding lower_digit
lower_read d lt =
    some_of (lower_digit (get_or lower_digits d 0)) d lt
    (eqb-true (unwrap_or (lower_digit (get_or lower_digits d 0)) 99) d
    (digit_passes (λ n c. unwrap_or (lower_digit c) 99 == n) 16 d refl lt))

low_is : (d : ℕ) → d < 10 → get_or lower_digits d 0 ≡ d + 48
low_is d lt =
    eqb-true (get_or lower_digits d 0) (d + 48) (digit_passes (λ n c. c == n + 48) 10 d refl lt)

abbrev letter_at : ℕ → ℕ → Bool
letter_at n c = if nat_lt n 10 then true else c == n + 87

letter_test : (d c : ℕ) → 10 ≤ d → letter_at d c ≡ true → c ≡ d + 87
letter_test d c le h = go (nat_lt d 10) refl h
  where
    go : (b : Bool) → nat_lt d 10 ≡ b → cond b true (c == d + 87) ≡ true → c ≡ d + 87
    go true e h = let lt : d < 10 = grind (arith, nat_tests) in absurd (omega arith)
    go false e h = eqb-true c (d + 87) h

high_is : (d : ℕ) → 10 ≤ d → d < 16 → get_or lower_digits d 0 ≡ d + 87
high_is d le lt = letter_test d (get_or lower_digits d 0) le (digit_passes letter_at 16 d refl lt)

-- a character that is read as a digit's value is the digit of that value
lower_written : (c d : ℕ) → lower_digit c ≡ Some d → (d < 16) × (get_or lower_digits d 0 ≡ c)
unfolding lower_digit
lower_written c d h = go (nat_le 48 c && nat_le c 57) (nat_le 97 c && nat_le c 102) refl refl h
  where
    go : (a b : Bool) → (nat_le 48 c && nat_le c 57) ≡ a → (nat_le 97 c && nat_le c 102) ≡ b →
        cond a (Some (c - 48)) (cond b (Some (c - 87)) None) ≡ Some d →
        (d < 16) × (get_or lower_digits d 0 ≡ c)
    go true b e f h =
        let parts = and_parts (nat_le 48 c) (nat_le c 57) e in
        let low : 48 ≤ c = grind (arith, nat_tests) in
        let top : c ≤ 57 = grind (arith, nat_tests) in
        let is : c - 48 ≡ d = cc in
        let few : d < 10 = omega arith in
        (omega arith, low_is d few ∙ omega arith)
    go false true e f h =
        let parts = and_parts (nat_le 97 c) (nat_le c 102) f in
        let low : 97 ≤ c = grind (arith, nat_tests) in
        let top : c ≤ 102 = grind (arith, nat_tests) in
        let is : c - 87 ≡ d = cc in
        let few : d < 16 = omega arith in
        let most : 10 ≤ d = omega arith in
        (few, high_is d most few ∙ omega arith)
    go false false e f h = let bad : None ≡ Some d = h in cc

-- ---- hexadecimal

pairs_read : (bytes : List ℕ) → All (λ b. b < 256) bytes → pairs (encode_lower bytes) ≡ Some bytes
unfolding pairs encode_with
pairs_read [] h = refl
pairs_read (b ∷ bytes) h =
    let lt : b < 256 = All-head (λ b. b < 256) b bytes h in
    let high = digit_read (b / 16) (omega arith) in
    let low = digit_read (b % 16) (omega arith) in
    let rest = pairs_read bytes (All-tail (λ b. b < 256) b bytes h) in
    let whole : 16 * (b / 16) + b % 16 ≡ b = omega arith in
    rw (high, low, rest) (ap (λ n. Some (n ∷ bytes)) whole)

hexadecimal_read : (bytes : List ℕ) → All (λ b. b < 256) bytes →
    hexadecimal_bytes (hexadecimal_text bytes) ≡ Some bytes
unfolding encode_with
hexadecimal_read [] h = refl
hexadecimal_read (b ∷ bytes) h = pairs_read (b ∷ bytes) h

-- ---- text

backslash : is_literal 92 ≡ false
unfolding is_literal
backslash = refl

-- the character of a byte is read as the byte
character_read : (l : Bool) (b : ℕ) (text : List ℕ) → b < 256 → is_literal b ≡ l →
    characters (character b ++ text) ≡ in_front (Some b) (characters text)
unfolding character encode_with
character_read true b text lt e = rw e (literal_first (b ∷ text) (omega arith) e)
character_read false b text lt e =
    let high = lower_read (b / 16) (omega arith) in
    let low = lower_read (b % 16) (omega arith) in
    let whole : 16 * (b / 16) + b % 16 ≡ b = omega arith in
    let first : escaped 92 (get_or lower_digits (b / 16) 0) (get_or lower_digits (b % 16) 0) ≡ Some b =
    rw (high, low, whole, e) refl in
    rw e
    (escape_first (92 ∷ get_or lower_digits (b / 16) 0 ∷ get_or lower_digits (b % 16) 0 ∷ text) (omega arith)
    backslash
    ∙ ap (λ o. in_front o (characters text)) first)

characters_read : (bytes : List ℕ) → All (λ b. b < 256) bytes →
    characters (flat_map character bytes) ≡ Some bytes
unfolding characters
characters_read [] h = refl
characters_read (b ∷ bytes) h =
    character_read (is_literal b) b (flat_map character bytes) (All-head (λ b. b < 256) b bytes h) refl
    ∙ ap (in_front (Some b)) (characters_read bytes (All-tail (λ b. b < 256) b bytes h))

dash_is : (xs : List ℕ) → is_dash xs ≡ true → xs ≡ 45 ∷ []
dash_is [] h = let bad : false ≡ true = h in cc
dash_is (c ∷ []) h = ap (λ x. x ∷ []) (eqb-true c 45 h)
dash_is (c ∷ d ∷ cs) h = let bad : false ≡ true = h in cc

dash_read : characters (45 ∷ []) ≡ Some (45 ∷ [])
unfolding characters is_literal
dash_read = refl

escaped_dash_read : characters (codes "\\2d") ≡ None
unfolding characters is_literal lower_digit
escaped_dash_read = refl

none_read : characters [] ≡ Some []
unfolding characters
none_read = refl

-- a word whose characters stand for bytes other than a single dash, and some, is read by its characters
word_read : (word bytes : List ℕ) → characters word ≡ Some bytes → 0 < length bytes → is_dash bytes ≡ false →
    plain_bytes word ≡ Some bytes
word_read word bytes h some e =
    plain_characters word (not_empty word h) (not_dash (is_dash word) refl)
    (not_escaped (is_word word (codes "\\2d")) refl)
    ∙ h
  where
    not_empty : (xs : List ℕ) → characters xs ≡ Some bytes → 0 < length xs
    not_empty [] k =
        let none : Some bytes ≡ Some [] = sym k ∙ none_read in
        let same : bytes ≡ [] = cc in
        let zero : length bytes ≡ 0 = ap (length {A = ℕ}) same in
        absurd (omega arith)
    not_empty (x ∷ xs) k = omega arith

    not_dash : (b : Bool) → is_dash word ≡ b → is_dash word ≡ false
    not_dash false f = f
    not_dash true f =
        let same : Some bytes ≡ Some (45 ∷ []) = sym h ∙ ap characters (dash_is word f) ∙ dash_read in
        let is : bytes ≡ 45 ∷ [] = cc in
        let bad : false ≡ true = sym e ∙ ap is_dash is in
        cc

    not_escaped : (b : Bool) → is_word word (codes "\\2d") ≡ b → is_word word (codes "\\2d") ≡ false
    not_escaped false f = f
    not_escaped true f =
        let is : word ≡ codes "\\2d" = (bytes_decides word (codes "\\2d")).0 f in
        let bad : Some bytes ≡ None = sym h ∙ ap characters is ∙ escaped_dash_read in
        cc

none_text : plain_bytes (codes "-") ≡ Some []
unfolding plain_bytes
none_text = refl

dash_text : plain_bytes (codes "\\2d") ≡ Some (45 ∷ [])
unfolding plain_bytes
dash_text = refl

text_read : (bytes : List ℕ) → All (λ b. b < 256) bytes → plain_bytes (plain_text bytes) ≡ Some bytes
unfolding plain_text
text_read [] h = none_text
text_read (c ∷ cs) h = go (is_dash (c ∷ cs)) refl
  where
    go : (b : Bool) → is_dash (c ∷ cs) ≡ b →
        plain_bytes (cond b (codes "\\2d") (flat_map character (c ∷ cs))) ≡ Some (c ∷ cs)
    go true e = dash_text ∙ ap (λ xs. Some xs) (sym (dash_is (c ∷ cs) e))
    go false e =
        word_read (flat_map character (c ∷ cs)) (c ∷ cs) (characters_read (c ∷ cs) h) (omega arith) e

-- what is written of bytes is read back
pub read_back : WordsReadBackLaw
read_back Hexadecimal bytes h = hexadecimal_read bytes h
read_back Text bytes h = text_read bytes h

-- ---- only as written

in_front_some : (o : Option ℕ) (r : Option (List ℕ)) (bytes : List ℕ) → in_front o r ≡ Some bytes →
    (b : ℕ) × (bs : List ℕ) × (o ≡ Some b) × (r ≡ Some bs) × (bytes ≡ b ∷ bs)
in_front_some None r bytes h = let bad : None ≡ Some bytes = h in cc
in_front_some (Some b) None bytes h = let bad : None ≡ Some bytes = h in cc
in_front_some (Some b) (Some bs) bytes h = let same : b ∷ bs ≡ bytes = cc in (b, bs, refl, refl, sym same)

unless_some : (l : Bool) (n b : ℕ) → is_literal n ≡ l → unless_literal n ≡ Some b → (n ≡ b) × (is_literal b ≡ false)
unless_some true n b e h = let bad : None ≡ Some b = rw e at h in cc
unless_some false n b e h =
    let is : Some n ≡ Some b = rw e at h in
    let same : n ≡ b = cc in
    (same, ap is_literal (sym same) ∙ e)

-- an escape that stands for a byte is what is written of it
of_digits_written : (p q : Option ℕ) (d e b : ℕ) → lower_digit d ≡ p → lower_digit e ≡ q → of_digits p q ≡ Some b →
    character b ≡ 92 ∷ d ∷ e ∷ []
unfolding character encode_with
of_digits_written None q d e b f g h = let bad : None ≡ Some b = h in cc
of_digits_written (Some high) None d e b f g h = let bad : None ≡ Some b = h in cc
of_digits_written (Some high) (Some low) d e b f g h =
    let byte = unless_some (is_literal (16 * high + low)) (16 * high + low) b refl h in
    let first = lower_written d high f in
    let second = lower_written e low g in
    let upper : b / 16 ≡ high = omega (arith, byte.0, first.0, second.0) in
    let lower : b % 16 ≡ low = omega (arith, byte.0, first.0, second.0) in
    rw (byte.1, upper, lower, first.1, second.1) refl

escape_written : (l : Bool) (c d e b : ℕ) → (c == 92) ≡ l → escaped c d e ≡ Some b →
    character b ≡ c ∷ d ∷ e ∷ []
escape_written true c d e b k h =
    let is : c ≡ 92 = eqb-true c 92 k in
    of_digits_written (lower_digit d) (lower_digit e) d e b refl refl (rw k at h)
    ∙ ap (λ x. x ∷ d ∷ e ∷ []) (sym is)
escape_written false c d e b k h = let bad : None ≡ Some b = rw k at h in cc

literal_written : (c : ℕ) → is_literal c ≡ true → character c ≡ c ∷ []
unfolding character
literal_written c e = rw e refl

-- characters that stand for bytes are what is written of these
characters_written : (n : ℕ) (word bytes : List ℕ) → length word ≤ n → characters word ≡ Some bytes →
    flat_map character bytes ≡ word
characters_written zero [] bytes le h =
    let same : Some bytes ≡ Some [] = sym h ∙ none_read in
    let none : bytes ≡ [] = cc in
    ap (flat_map character) none
characters_written zero (c ∷ cs) bytes le h = absurd (omega arith)
characters_written (suc n) [] bytes le h = characters_written n [] bytes (omega arith) h
characters_written (suc n) (c ∷ cs) bytes le h =
    by_literal (λ xs bs few is. characters_written n xs bs few is) (is_literal c) refl
  where
    Shorter : Type 0
    Shorter = (xs bs : List ℕ) → length xs ≤ n → characters xs ≡ Some bs → flat_map character bs ≡ xs

    by_escape : Shorter → (xs : List ℕ) → cs ≡ xs → is_literal c ≡ false → flat_map character bytes ≡ c ∷ cs
    by_escape before [] is e =
        let text = ap (λ ys. c ∷ ys) is in
        let bad : Some bytes ≡ None =
        sym h ∙ ap characters text ∙ short_escape (c ∷ []) (omega arith) (omega arith) e in
        cc
    by_escape before (d ∷ []) is e =
        let text = ap (λ ys. c ∷ ys) is in
        let bad : Some bytes ≡ None =
        sym h ∙ ap characters text ∙ short_escape (c ∷ d ∷ []) (omega arith) (omega arith) e in
        cc
    by_escape before (d ∷ e ∷ xs) is p =
        let first : in_front (escaped c d e) (characters xs) ≡ Some bytes =
        sym (escape_first (c ∷ d ∷ e ∷ xs) (omega arith) p) ∙ ap (λ ys. characters (c ∷ ys)) (sym is) ∙ h in
        let parts = in_front_some (escaped c d e) (characters xs) bytes first in
        let long : length cs ≡ length (d ∷ e ∷ xs) = ap (length {A = ℕ}) is in
        ap (flat_map character) parts.4
        ∙ ap (λ ys. ys ++ flat_map character parts.1) (escape_written (c == 92) c d e parts.0 refl parts.2)
        ∙ ap (λ ys. c ∷ d ∷ e ∷ ys) (before xs parts.1 (omega arith) parts.3)
        ∙ ap (λ ys. c ∷ ys) (sym is)

    by_literal : Shorter → (l : Bool) → is_literal c ≡ l → flat_map character bytes ≡ c ∷ cs
    by_literal before true e =
        let first : in_front (Some c) (characters cs) ≡ Some bytes =
        sym (literal_first (c ∷ cs) (omega arith) e) ∙ h in
        let parts = in_front_some (Some c) (characters cs) bytes first in
        let same : c ≡ parts.0 = cc parts.2 in
        ap (flat_map character) parts.4
        ∙ ap (λ ys. ys ++ flat_map character parts.1) (ap character (sym same) ∙ literal_written c e)
        ∙ ap (λ ys. c ∷ ys) (before cs parts.1 (omega arith) parts.3)
    by_literal before false e = by_escape before cs refl e

literal_dash : flat_map character (45 ∷ []) ≡ 45 ∷ []
unfolding character is_literal
literal_dash = refl

-- a word that is read by its characters is what is written of them
rest_written : (word bytes : List ℕ) → 0 < length word → is_dash word ≡ false → characters word ≡ Some bytes →
    word ≡ plain_text bytes
rest_written word bytes some e h = go bytes (is_dash bytes) refl refl
  where
    written : flat_map character bytes ≡ word
    written = characters_written (length word) word bytes (omega arith) h

    go : (xs : List ℕ) (b : Bool) → bytes ≡ xs → is_dash bytes ≡ b → word ≡ plain_text bytes
    go [] b is f =
        let none : word ≡ [] = sym written ∙ ap (flat_map character) is in
        let zero : length word ≡ 0 = ap (length {A = ℕ}) none in
        absurd (omega arith)
    go (x ∷ xs) true is f =
        let dash : word ≡ 45 ∷ [] = sym written ∙ ap (flat_map character) (dash_is bytes f) ∙ literal_dash in
        let bad : false ≡ true = sym e ∙ ap is_dash dash in
        cc
    go (x ∷ xs) false is f =
        let long : length bytes ≡ length (x ∷ xs) = ap (length {A = ℕ}) is in
        sym written ∙ sym (text_characters bytes (omega arith) f)

of_none : plain_text [] ≡ codes "-"
unfolding plain_text
of_none = refl

of_dash : plain_text (45 ∷ []) ≡ codes "\\2d"
unfolding plain_text
of_dash = refl

-- a text that stands for bytes is what is written of them
pub exact : ExactLaw
unfolding plain_bytes
exact [] bytes h = let bad : None ≡ Some bytes = h in cc
exact (c ∷ cs) bytes h = by_dash (is_dash (c ∷ cs)) (is_word (c ∷ cs) (codes "\\2d")) refl refl h
  where
    by_dash : (a b : Bool) → is_dash (c ∷ cs) ≡ a → is_word (c ∷ cs) (codes "\\2d") ≡ b →
        cond a (Some []) (cond b (Some (45 ∷ [])) (characters (c ∷ cs))) ≡ Some bytes → c ∷ cs ≡ plain_text bytes
    by_dash true b e f h =
        let is : [] ≡ bytes = cc in
        dash_is (c ∷ cs) e ∙ sym (ap plain_text (sym is) ∙ of_none)
    by_dash false true e f h =
        let is : 45 ∷ [] ≡ bytes = cc in
        (bytes_decides (c ∷ cs) (codes "\\2d")).0 f ∙ sym (ap plain_text (sym is) ∙ of_dash)
    by_dash false false e f h = rest_written (c ∷ cs) bytes (omega arith) e h

-- ---- lengths

character_short : (l : Bool) (c : ℕ) → is_literal c ≡ l → length (character c) ≤ 3
unfolding character encode_with
character_short true c e = rw e (omega arith)
character_short false c e = rw e (omega arith)

characters_short : (bytes : List ℕ) → length (flat_map character bytes) ≤ 3 * length bytes
characters_short [] = omega arith
characters_short (c ∷ cs) =
    omega (
      arith,
      character_short (is_literal c) c refl,
      characters_short cs,
      length-append (character c) (flat_map character cs),
    )

text_short : (most : ℕ) (bytes : List ℕ) → 1 ≤ most → length bytes ≤ most → length (plain_text bytes) ≤ 3 * most
unfolding plain_text
text_short most [] one few = omega arith
text_short most (c ∷ cs) one few = go (is_dash (c ∷ cs))
  where
    go : (b : Bool) → length (cond b (codes "\\2d") (flat_map character (c ∷ cs))) ≤ 3 * most
    go true = omega arith
    go false = omega (arith, characters_short (c ∷ cs))

-- no word is longer than three bytes for each of those that it is written of
pub short : ShortLaw
short Hexadecimal most [] one few = omega arith
short Hexadecimal most (b ∷ bytes) one few = omega (arith, length-encode_with lower_digits (b ∷ bytes))
short Text most bytes one few = text_short most bytes one few
