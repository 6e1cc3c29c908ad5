-- Pairs of hexadecimal digits.
use Rattle.std.proofs.Common.{◌≡◌, ◌==◌, ◌&&◌, ℕ, ◌+◌, ◌*◌, ◌/◌, ◌%◌, ◌<◌, ◌≤◌, suc, Bool, true, false, cond, List, []}
use Rattle.std.proofs.Common.{◌∷◌, Option}
use Rattle.std.proofs.Common.{None, Some, IfSome, length, take, refl, ap, sym, ◌∙◌, arith}
use Rattle.std.specs.Prelude.{Result, Ok, Err, is_some}
use Rattle.std.specs.Option.{option_map}
use Rattle.std.specs.Result.{result_ok}
use Rattle.std.specs.List.{list_all}
use Rattle.std.proofs.lemmas.Bool.Decides.{nat_tests}
use Rattle.hex.specs.Hex.{◌>>=◌, decode_of, decode_pairs, digit_or_error, hex_digit_value}
use Rattle.hex.specs.declared.error.FromHexError.{FromHexError}

half : (n : ℕ) → ((suc (suc n)) % 2 ≡ n % 2) × ((suc (suc n)) / 2 ≡ suc (n / 2))
half n = (omega arith, omega arith)

abbrev pair_of : Option ℕ → Option ℕ → ℕ → ℕ → ℕ → Result (List ℕ) FromHexError → Result (List ℕ) FromHexError
pair_of a b c d i r =
    (digit_or_error c i a >>= λ h. digit_or_error d (i + 1) b >>= λ l. Ok (h * 16 + l))
    >>= λ byte. r >>= λ bytes. Ok (byte ∷ bytes)

by_digits : (a b : Option ℕ) (c d i : ℕ) (r : Result (List ℕ) FromHexError) (t : Bool) (n : ℕ) →
    option_map length (result_ok r) ≡ cond t (Some n) None →
    option_map length (result_ok (pair_of a b c d i r)) ≡ cond (is_some a && (is_some b && t)) (Some (suc n)) None
by_digits None b c d i r t n h = refl
by_digits (Some x) None c d i r t n h = refl
by_digits (Some x) (Some y) c d i (Err e) true n h = cc
by_digits (Some x) (Some y) c d i (Err e) false n h = refl
by_digits (Some x) (Some y) c d i (Ok bs) false n h = cc
by_digits (Some x) (Some y) c d i (Ok bs) true n h =
    let k : length bs ≡ n = cc in ap (λ m. Some (suc m)) k

regroup : (p a b c : Bool) → (p && (a && (b && c))) ≡ (a && (b && (p && c)))
regroup true a b c = refl
regroup false true true c = refl
regroup false true false c = refl
regroup false false b c = refl

abbrev is_hex : ℕ → Bool
is_hex c = is_some (hex_digit_value c)

length_of_pairs : (i : ℕ) (xs : List ℕ) →
    option_map length (result_ok (decode_pairs i xs))
    ≡ cond ((length xs % 2 == 0) && list_all is_hex xs) (Some (length xs / 2)) None
unfolding decode_pairs
length_of_pairs i [] = refl
length_of_pairs i (c ∷ []) = refl
length_of_pairs i (c ∷ d ∷ cs) =
    by_digits (hex_digit_value c) (hex_digit_value d) c d i (decode_pairs (i + 2) cs)
    ((length cs % 2 == 0) && list_all is_hex cs) (length cs / 2) (length_of_pairs (i + 2) cs)
    ∙ (ap (λ b. cond b (Some (suc (length cs / 2))) None)
    (sym (regroup (length cs % 2 == 0) (is_hex c) (is_hex d) (list_all is_hex cs)))
    ∙ rw ((half (length cs)).0, (half (length cs)).1) refl)

by_parity : (a b t : Bool) (n k : ℕ) (e : FromHexError) (r : Result (List ℕ) FromHexError) → (n == 1) ≡ a →
    (n == 0) ≡ b → option_map length (result_ok r) ≡ cond (b && t) (Some k) None →
    option_map length (result_ok (cond a (Err e) r)) ≡ cond (b && t) (Some k) None
by_parity false b t n k e r f g h = h
by_parity true false t n k e r f g h = refl
by_parity true true t n k e r f g h =
    let one : n ≡ 1 = grind (arith, nat_tests) in
    let none : n ≡ 0 = grind (arith, nat_tests) in
    absurd (omega arith)

-- an even number of digits makes half as many bytes, and nothing else makes any
pub length_of_digits : (xs : List ℕ) →
    option_map length (result_ok (decode_of xs))
    ≡ cond ((length xs % 2 == 0) && list_all (λ c. is_some (hex_digit_value c)) xs) (Some (length xs / 2)) None
length_of_digits xs =
    by_parity (length xs % 2 == 1) (length xs % 2 == 0) (list_all is_hex xs) (length xs % 2) (length xs / 2) _
    (decode_pairs 0 xs) refl refl (length_of_pairs 0 xs)

by_half : (b : Bool) (h n : ℕ) (o : Option ℕ) (P : ℕ → Type 0) → o ≡ cond b (Some h) None → n < h →
    IfSome o (λ m. m ≤ n → P m)
by_half b h n None P e lt = tt
by_half true h n (Some m) P e lt = λ le. let k : m ≡ h = cc in absurd (omega arith)
by_half false h n (Some m) P e lt = let bad : Some m ≡ None = e in absurd cc

-- longer texts don't fit
pub room_short : (xs room : List ℕ) (o : Option ℕ) → o ≡ option_map length (result_ok (decode_of xs)) →
    length room < length xs / 2 →
    IfSome o (λ m. m ≤ length room → result_ok (decode_of xs) ≡ Some (take m room))
room_short xs room o e lt =
    by_half ((length xs % 2 == 0) && list_all (λ c. is_some (hex_digit_value c)) xs) (length xs / 2) (length room) o
    (λ m. result_ok (decode_of xs) ≡ Some (take m room)) (e ∙ length_of_digits xs) lt
