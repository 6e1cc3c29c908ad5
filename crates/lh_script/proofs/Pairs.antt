-- Pairs of hexadecimal digits: the table of the digits' values, and the bytes that are read one after another.
use Rattle.std.proofs.Common.{◌≡◌, ◌==◌, ◌&&◌, ℕ, ◌+◌, ◌-◌, ◌*◌, ◌/◌, ◌%◌, ◌<◌, ◌≤◌, suc, Bool, true, false, cond, List}
use Rattle.std.proofs.Common.{[], ◌∷◌, ◌++◌, Option, None, Some, IfSome, length, take, drop, map, refl, ap, sym, ◌∙◌}
use Rattle.std.proofs.Common.{arith, get_or, MatchBool, append_assoc, append-nil, set}
use Rattle.std.specs.Prelude.{is_some, nat_lt, nat_le, unwrap_or}
use Rattle.std.specs.Int.Bits.{bit_or}
use Rattle.std.specs.Option.{option_map}
use Rattle.std.specs.List.{list_all, range_with_len}
use Rattle.std.proofs.lemmas.Bool.Decides.{nat_tests}
use Rattle.std.proofs.lemmas.Grind.{common_steps}
use Rattle.std.proofs.lemmas.List.FromFn.{get_or-map-range_with_len}
use Rattle.std.proofs.lemmas.Nat.{or_lt, le_or_l, le_or_r}
use Rattle.lh_script.specs.Hexadecimal.{digit, pairs, with_byte, hexadecimal_bytes}
use Rattle.lh_script.specs.declared.hexadecimal.TheConstants.{DIGIT_VALUES}

abbrev pub is_digit : ℕ → Bool
is_digit c = is_some (digit c)

-- the length, where there are whole pairs of digits
abbrev pub pairs_length : List ℕ → Option ℕ
pairs_length xs = cond ((length xs % 2 == 0) && list_all is_digit xs) (Some (length xs / 2)) None

half : (n : ℕ) → ((suc (suc n)) % 2 ≡ n % 2) × ((suc (suc n)) / 2 ≡ suc (n / 2))
half n = (omega arith, omega arith)

by_digits : (d e : Option ℕ) (r : Option (List ℕ)) (b : Bool) (n : ℕ) → option_map length r ≡ cond (b) (Some n) None →
    option_map length (with_byte d e r) ≡ cond (is_some d && (is_some e && b)) (Some (suc n)) None
by_digits None e r b n h = refl
by_digits (Some d) None r b n h = refl
by_digits (Some d) (Some e) None true n h = cc
by_digits (Some d) (Some e) None false n h = refl
by_digits (Some d) (Some e) (Some bs) false n h = cc
by_digits (Some d) (Some e) (Some bs) true n h = let k : length bs ≡ n = cc in ap (λ m. Some (suc m)) k

regroup : (p a b c : Bool) → (p && (a && (b && c))) ≡ (a && (b && (p && c)))
regroup true a b c = refl
regroup false true true c = refl
regroup false true false c = refl
regroup false false b c = refl

-- pairs of digits make half as many bytes as there are digits, and nothing else makes any
pub pairs_length_is : (xs : List ℕ) → option_map length (pairs xs) ≡ pairs_length xs
unfolding pairs
pairs_length_is [] = refl
pairs_length_is (c ∷ []) = refl
pairs_length_is (c ∷ d ∷ cs) =
    by_digits (digit c) (digit d) (pairs cs) ((length cs % 2 == 0) && list_all is_digit cs) (length cs / 2)
    (pairs_length_is cs)
    ∙ (ap (λ b. cond b (Some (suc (length cs / 2))) None)
    (sym (regroup (length cs % 2 == 0) (is_digit c) (is_digit d) (list_all is_digit cs)))
    ∙ rw ((half (length cs)).0, (half (length cs)).1) refl)

-- the same, with its tests written out
pub length_of_pairs : (xs : List ℕ) →
    option_map length (pairs xs) ≡
    cond ((length xs % 2 == 0) && list_all (λ c. is_some (digit c)) xs) (Some (length xs / 2)) None
length_of_pairs xs = pairs_length_is xs

-- digits

abbrev pub value_or_mark : ℕ → ℕ
value_or_mark c = unwrap_or (digit c) 16

table_is : DIGIT_VALUES ≡ map value_or_mark (range_with_len 0 256)
unfolding digit
table_is = refl

-- the table has the value of each digit at its code, and 16 for a byte that is no digit
pub digit_from_table : (c : ℕ) → c < 256 → get_or DIGIT_VALUES c 0 ≡ unwrap_or (digit c) 16
digit_from_table c lt =
    ap (λ table. get_or table c 0) table_is ∙ get_or-map-range_with_len value_or_mark 0 256 c c 0 lt (omega arith)

by_three : (a b c : Bool) (x y z : ℕ) → (a ≡ true → x < 16) → (b ≡ true → y < 16) → (c ≡ true → z < 16) →
    IfSome (cond a (Some x) (cond b (Some y) (cond c (Some z) None))) (λ d. d < 16)
by_three true b c x y z f g h = f refl
by_three false true c x y z f g h = g refl
by_three false false true x y z f g h = h refl
by_three false false false x y z f g h = tt

decimal_small : (c : ℕ) → (nat_le 48 c && nat_le c 57) ≡ true → c - 48 < 16
decimal_small c h = grind (arith, nat_tests)

upper_small : (c : ℕ) → (nat_le 65 c && nat_le c 70) ≡ true → c - 55 < 16
upper_small c h = grind (arith, nat_tests)

lower_small : (c : ℕ) → (nat_le 97 c && nat_le c 102) ≡ true → c - 87 < 16
lower_small c h = grind (arith, nat_tests)

digit_small : (c : ℕ) → IfSome (digit c) (λ d. d < 16)
unfolding digit
digit_small c =
    by_three (nat_le 48 c && nat_le c 57) (nat_le 65 c && nat_le c 70) (nat_le 97 c && nat_le c 102) (c - 48) (c - 55)
    (c - 87) (decimal_small c) (upper_small c) (lower_small c)

mark_bound : (o : Option ℕ) → IfSome o (λ d. d < 16) → unwrap_or o 16 ≤ 16
mark_bound None h = omega arith
mark_bound (Some d) h = omega arith

-- a digit's value, or 16 for what is no digit, is at most 16
pub value_bound : (c : ℕ) → unwrap_or (digit c) 16 ≤ 16
value_bound c = mark_bound (digit c) (digit_small c)

mark_test : (o : Option ℕ) → IfSome o (λ d. d < 16) → nat_lt (unwrap_or o 16) 16 ≡ is_some o
mark_test None h = refl
mark_test (Some d) h = grind (arith, nat_tests)

-- no entry of the table is above 16
pub table_bound : (c : ℕ) → c < 256 → get_or DIGIT_VALUES c 0 ≤ 16
table_bound c lt = omega (arith, digit_from_table c lt, value_bound c)

-- a byte is a digit exactly where its value, or 16 for what is no digit, is below 16
pub digit_is_below : (c : ℕ) → nat_lt (unwrap_or (digit c) 16) 16 ≡ is_some (digit c)
digit_is_below c = mark_test (digit c) (digit_small c)

-- the first byte

good_byte : (a b : Option ℕ) (r : Option (List ℕ)) → IfSome a (λ d. d < 16) → IfSome b (λ d. d < 16) →
    unwrap_or a 16 < 16 → unwrap_or b 16 < 16 →
    with_byte a b r ≡ option_map (λ bytes. (16 * (unwrap_or a 16 % 16) + unwrap_or b 16 % 16) ∷ bytes) r
good_byte None b r h k lt mt = absurd (omega arith)
good_byte (Some d) None r h k lt mt = absurd (omega arith)
good_byte (Some d) (Some e) None h k lt mt = refl
good_byte (Some d) (Some e) (Some bs) h k lt mt =
    let same : 16 * d + e ≡ 16 * (d % 16) + e % 16 = omega arith in
    ap (λ n. Some (n ∷ bs)) same

-- where the first two bytes are digits, the byte that they make comes before those of the rest
pub pair_good : (xs : List ℕ) (high low : ℕ) → 1 < length xs → high ≡ unwrap_or (digit (get_or xs 0 0)) 16 →
    low ≡ unwrap_or (digit (get_or xs 1 0)) 16 → bit_or high low < 16 →
    pairs xs ≡ option_map (λ bytes. (16 * (high % 16) + low % 16) ∷ bytes) (pairs (drop 2 xs))
unfolding pairs
pair_good [] high low lt e f m = absurd (omega arith)
pair_good (c ∷ []) high low lt e f m = absurd (omega arith)
pair_good (c ∷ d ∷ cs) high low lt e f m =
    good_byte (digit c) (digit d) (pairs cs) (digit_small c) (digit_small d) (omega (arith, le_or_l high low))
    (omega (arith, le_or_r high low))
    ∙ rw (e, f) refl

bad_byte : (a b : Option ℕ) (r : Option (List ℕ)) → IfSome a (λ d. d < 16) → IfSome b (λ d. d < 16) →
    16 ≤ bit_or (unwrap_or a 16) (unwrap_or b 16) → with_byte a b r ≡ None
bad_byte None b r h k m = refl
bad_byte (Some d) None r h k m = refl
bad_byte (Some d) (Some e) r h k m = absurd (omega (arith, or_lt 4 d e (omega arith) (omega arith)))

-- where one of the first two bytes is no digit, the bytes are no pairs of digits
pub pair_bad : (xs : List ℕ) (high low : ℕ) → 1 < length xs → high ≡ unwrap_or (digit (get_or xs 0 0)) 16 →
    low ≡ unwrap_or (digit (get_or xs 1 0)) 16 → 16 ≤ bit_or high low → pairs xs ≡ None
unfolding pairs
pair_bad [] high low lt e f m = absurd (omega arith)
pair_bad (c ∷ []) high low lt e f m = absurd (omega arith)
pair_bad (c ∷ d ∷ cs) high low lt e f m =
    bad_byte (digit c) (digit d) (pairs cs) (digit_small c) (digit_small d) (rw (e, f) at m)

-- bytes written one after another

-- bytes before those of a list, if it has some
abbrev pub with_front : List ℕ → Option (List ℕ) → Option (List ℕ)
with_front front r = option_map (λ bytes. front ++ bytes) r

fronts : (front : List ℕ) (b : ℕ) (r : Option (List ℕ)) →
    with_front front (option_map (λ bytes. b ∷ bytes) r) ≡ with_front (front ++ b ∷ []) r
fronts front b None = refl
fronts front b (Some bs) = ap (λ m. Some m) (sym (append_assoc front (b ∷ []) bs))

front_grows : (out : List ℕ) (i b : ℕ) → i < length out → take i out ++ b ∷ [] ≡ take (i + 1) (set out i b)
front_grows out i b lt = grind (arith, common_steps)

-- one more byte is written
pub front_step : (word out rest behind : List ℕ) (i b : ℕ) → i < length out →
    pairs word ≡ with_front (take i out) (pairs rest) → pairs rest ≡ option_map (λ bytes. b ∷ bytes) (pairs behind) →
    pairs word ≡ with_front (take (i + 1) (set out i b)) (pairs behind)
front_step word out rest behind i b lt h k =
    h ∙ (rw k (fronts (take i out) b (pairs behind)) ∙ ap (λ f. with_front f (pairs behind)) (front_grows out i b lt))

-- the next byte is none
pub front_breaks : (word front rest : List ℕ) → pairs word ≡ with_front front (pairs rest) → pairs rest ≡ None →
    pairs word ≡ None
front_breaks word front rest h k = h ∙ rw k refl

take_whole : (out : List ℕ) (i : ℕ) → i ≡ length out → take i out ≡ out
take_whole out i e = grind (arith, common_steps)

-- nothing is left to write
pub front_whole : (word out rest : List ℕ) (i : ℕ) → pairs word ≡ with_front (take i out) (pairs rest) →
    length rest ≡ 0 → i ≡ length out → pairs word ≡ Some out
unfolding pairs
front_whole word out [] i h e k =
    h ∙ (ap (λ m. Some m) (append-nil (take i out)) ∙ ap (λ m. Some m) (take_whole out i k))
front_whole word out (c ∷ cs) i h e k = absurd (omega arith)

-- what the marks say at the end
by_test : (b : Bool) (n : ℕ) (P Q : Type 0) → nat_lt n 16 ≡ b → (n < 16 → P) → (16 ≤ n → Q) → MatchBool b P Q
by_test true n P Q e f g = f (grind (arith, nat_tests))
by_test false n P Q e f g = g (grind (arith, nat_tests))

-- of two facts, one for marks below 16 and one for all others, the one that the test picks holds
pub marks_decide : (n : ℕ) (P Q : Type 0) → (n < 16 → P) → (16 ≤ n → Q) → MatchBool (nat_lt n 16) P Q
marks_decide n P Q f g = by_test (nat_lt n 16) n P Q refl f g

one_bad : (c d : Bool) (a b : ℕ) (P : Type 0) → nat_lt a 16 ≡ c → nat_lt b 16 ≡ d → 16 ≤ bit_or a b → (16 ≤ a → P) →
    (a < 16 → 16 ≤ b → P) → P
one_bad false d a b P e k m f g = f (grind (arith, nat_tests))
one_bad true false a b P e k m f g = g (grind (arith, nat_tests)) (grind (arith, nat_tests))
one_bad true true a b P e k m f g =
    let la : a < 16 = grind (arith, nat_tests) in
    let lb : b < 16 = grind (arith, nat_tests) in
    absurd (omega (arith, or_lt 4 a b la lb))

-- one mark more, and one of all is bad
pub marks_break : (a b : ℕ) (P : Type 0) → 16 ≤ bit_or a b → (16 ≤ a → P) → (a < 16 → 16 ≤ b → P) → P
marks_break a b P m f g = one_bad (nat_lt a 16) (nat_lt b 16) a b P refl refl m f g

-- the whole word

by_half : (b : Bool) (h n : ℕ) (o : Option ℕ) (P : ℕ → Type 0) → o ≡ cond b (Some h) None → n < h →
    IfSome o (λ m. m ≤ n → P m)
by_half b h n None P e lt = tt
by_half true h n (Some m) P e lt = λ le. let k : m ≡ h = cc in absurd (omega arith)
by_half false h n (Some m) P e lt = let bad : Some m ≡ None = e in absurd cc

-- longer words don't fit
pub room_short : (xs room : List ℕ) (o : Option ℕ) → o ≡ option_map length (pairs xs) → length room < length xs / 2 →
    IfSome o (λ m. m ≤ length room → hexadecimal_bytes xs ≡ Some (take m room))
room_short xs room o e lt =
    by_half ((length xs % 2 == 0) && list_all (λ c. is_some (digit c)) xs) (length xs / 2) (length room) o
    (λ m. hexadecimal_bytes xs ≡ Some (take m room)) (e ∙ length_of_pairs xs) lt

-- an odd number of bytes is no pairs of digits
pub odd_none : (xs : List ℕ) → length xs % 2 ≡ 1 → option_map length (pairs xs) ≡ None
odd_none xs e = length_of_pairs xs ∙ rw e refl
