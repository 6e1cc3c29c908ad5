-- Records of db, written and read.
use Rattle.std.proofs.Common.{◌≡◌, ◌==◌, ◌||◌, ◌/◌, ◌%◌, ℕ, zero, suc, Bool, true, false, List, [], ◌∷◌}
use Rattle.std.proofs.Common.{◌++◌, None, Some, length, get_or, refl, ap, ◌∙◌, arith, append_assoc}
use Rattle.std.specs.Prelude.{Ok, nat_lt}
use Rattle.std.specs.List.{list_any}
use Rattle.std.specs.Result.{result_ok}
use Rattle.std.proofs.lemmas.Bool.Decides.{nat_tests}
use Rattle.hex.specs.Hex.{IsBytes, encode_lower, encode_with, lower_digits}
use Rattle.hex.proofs.HexLemmas.{decode_of-encode_lower}
use Rattle.lh_page.specs.Limits.{IsKey, IsValue}
use Rattle.lh_page.specs.declared.pair.Pair.{Pair}
use Rattle.lh_exchange.specs.DbRecords.{next_db, with_value_line}
use Rattle.lh_exchange.specs.DbTexts.{key_of_bytes, line_key, line_value, text_bytes, value_of_bytes}
use Rattle.lh_exchange.specs.ExchangeLaws.{IsExchanged}
use Rattle.lh_exchange.specs.StreamLines.{whole_line}
use Rattle.lh_exchange.specs.StreamTexts.{db_text, digits_line, closing_text}
use Rattle.lh_exchange.specs.declared.format.StreamFormat.TheVariants as format
use Rattle.lh_exchange.specs.declared.layout.Layout.TheVariants.{Bytevalue}

-- an LF, 10
abbrev is_end : ℕ → Bool
is_end c = c == 10

one_test : (a b : Bool) → (a || b) ≡ false → (a ≡ false) × (b ≡ false)
one_test false b e = (refl, e)
one_test true b e = absurd (let bad : true ≡ false = e in cc)

-- no byte among some that are no LF is one, nor is what stands behind them
no_end_at : (xs : List ℕ) (i : ℕ) → list_any is_end xs ≡ false → is_end (get_or xs i 0) ≡ false
no_end_at [] i e = refl
no_end_at (c ∷ cs) zero e = (one_test (is_end c) (list_any is_end cs) e).0
no_end_at (c ∷ cs) (suc i) e = no_end_at cs i (one_test (is_end c) (list_any is_end cs) e).1

no_end_in_digits : (bytes : List ℕ) → list_any is_end (encode_lower bytes) ≡ false
unfolding encode_with
no_end_in_digits [] = refl
no_end_in_digits (b ∷ bytes) =
    rw (no_end_at lower_digits (b / 16) refl, no_end_at lower_digits (b % 16) refl) (no_end_in_digits bytes)

-- a line that has no LF is cut off in front of its own
line_is_cut : (xs behind : List ℕ) → list_any is_end xs ≡ false → whole_line (xs ++ 10 ∷ behind) ≡ Some (xs, behind)
unfolding whole_line
line_is_cut [] behind e = refl
line_is_cut (c ∷ cs) behind e =
    let t = one_test (is_end c) (list_any is_end cs) e in rw (t.0, line_is_cut cs behind t.1) refl

regroup : (a behind : List ℕ) → (a ++ 10 ∷ []) ++ behind ≡ a ++ 10 ∷ behind
regroup a behind = append_assoc a (10 ∷ []) behind

-- a line of digits is cut off
digits_are_cut : (bytes behind : List ℕ) →
    whole_line (digits_line bytes ++ behind) ≡ Some (32 ∷ encode_lower bytes, behind)
digits_are_cut bytes behind =
    ap (λ xs. whole_line (32 ∷ xs)) (regroup (encode_lower bytes) behind)
    ∙ line_is_cut (32 ∷ encode_lower bytes) behind (no_end_in_digits bytes)

-- the digits of some bytes stand for them
digits_stand : (bytes : List ℕ) → IsBytes bytes → text_bytes Bytevalue (encode_lower bytes) ≡ Some bytes
unfolding text_bytes
digits_stand bytes h = ap result_ok (decode_of-encode_lower bytes h)

key_line : (key : List ℕ) → IsKey key → IsBytes key → line_key Bytevalue (32 ∷ encode_lower key) ≡ Ok key
key_line key h bytes =
    let some : (length key == 0) ≡ false = grind (arith, nat_tests, h) in
    let few : nat_lt 56 (length key) ≡ false = grind (arith, nat_tests, h) in
    ap key_of_bytes (digits_stand key bytes) ∙ rw (some, few) refl

value_line : (value : List ℕ) → IsValue value → IsBytes value →
    line_value Bytevalue (32 ∷ encode_lower value) ≡ Ok value
value_line value h bytes =
    let few : nat_lt 112 (length value) ≡ false = grind (arith, nat_tests, h) in
    ap value_of_bytes (digits_stand value bytes) ∙ rw few refl

value_reads : (key value behind : List ℕ) → IsValue value → IsBytes value →
    with_value_line Bytevalue key (digits_line value ++ behind)
    ≡ Ok (Some (record { key = key; value = value }, behind))
value_reads key value behind h bytes = rw (digits_are_cut value behind, value_line value h bytes) refl

two_lines : (pair : Pair) (behind : List ℕ) →
    db_text pair ++ behind ≡ digits_line pair.key ++ (digits_line pair.value ++ behind)
unfolding db_text
two_lines pair behind = append_assoc (digits_line pair.key) (digits_line pair.value) behind

key_reads : (pair : Pair) (behind : List ℕ) → IsKey pair.key → IsBytes pair.key →
    next_db Bytevalue (digits_line pair.key ++ behind) ≡ with_value_line Bytevalue pair.key behind
unfolding next_db
key_reads pair behind h bytes = rw (digits_are_cut pair.key behind, key_line pair.key h bytes) refl

-- a record that was written is read
pub db_reads : (pair : Pair) (behind : List ℕ) → IsExchanged pair →
    next_db Bytevalue (db_text pair ++ behind) ≡ Ok (Some (pair, behind))
db_reads pair behind h =
    ap (next_db Bytevalue) (two_lines pair behind)
    ∙ (key_reads pair (digits_line pair.value ++ behind) h.within.key h.key
    ∙ value_reads pair.key pair.value behind h.within.value h.value)

-- the end that was written is read
pub db_ends : next_db Bytevalue (closing_text format.Db) ≡ Ok None
unfolding next_db whole_line
db_ends = refl
