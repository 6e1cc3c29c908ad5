-- A character that is no control character has no control byte
use Rattle.std.proofs.Common.{◌≡◌, ◌∙◌, ℕ, ◌<◌, ◌≤◌, ◌+◌, ◌/◌, Bool, true, false, ◌&&◌, cond, ltb, if◌then◌else◌, List}
use Rattle.std.proofs.Common.{[], ◌∷◌, ◌++◌, Result, Ok, Err, refl, ap, arith}
use Rattle.std.specs.Prelude.{OnOk, is_ok}
use Rattle.std.specs.Char.{is_control, encode_utf8}
use Rattle.std.proofs.lemmas.Bool.{ltb-true}
use Rattle.std.proofs.lemmas.Bool.Decides.{nat_tests}
use Rattle.std.proofs.lemmas.List.Folds.{list_all-append}
use lib.Utf8.{next}
use Rattle.lh_options.specs.Escapes.{has_no_control, is_shown}

high-shown : (b : ℕ) → 128 ≤ b → is_shown b ≡ true
high-shown b h = grind (arith, nat_tests)

low-shown : (c : ℕ) → c < 128 → is_control c ≡ false → is_shown c ≡ true
low-shown c h plain = grind (arith, nat_tests)

next-shown : (bits : ℕ) → is_shown (next bits) ≡ true
next-shown bits = high-shown (next bits) (omega arith)

-- it is one byte, or all of its bytes are 128 and more
pub encode-shown : (c : ℕ) → is_control c ≡ false → has_no_control (encode_utf8 c) ≡ true
unfolding encode_utf8
encode-shown c plain = one (ltb c 128) refl
  where
    two : is_shown (192 + c / 64) ≡ true
    two = high-shown (192 + c / 64) (omega arith)

    three : is_shown (224 + c / 4096) ≡ true
    three = high-shown (224 + c / 4096) (omega arith)

    four : is_shown (240 + c / 262144) ≡ true
    four = high-shown (240 + c / 262144) (omega arith)

    last : (x y : Bool) →
        has_no_control
        (cond x ((192 + c / 64) ∷ next c ∷ [])
        (cond y ((224 + c / 4096) ∷ next (c / 64) ∷ next c ∷ [])
        ((240 + c / 262144) ∷ next (c / 4096) ∷ next (c / 64) ∷ next c ∷ []))) ≡ true
    last true y = λ i. two i && (next-shown c i && true)
    last false true = λ i. three i && (next-shown (c / 64) i && (next-shown c i && true))
    last false false = λ i. four i && (next-shown (c / 4096) i && (next-shown (c / 64) i && (next-shown c i && true)))

    one : (b : Bool) → ltb c 128 ≡ b →
        has_no_control
        (cond b (c ∷ [])
        (cond (ltb c 2048) ((192 + c / 64) ∷ next c ∷ [])
        (cond (ltb c 65536) ((224 + c / 4096) ∷ next (c / 64) ∷ next c ∷ [])
        ((240 + c / 262144) ∷ next (c / 4096) ∷ next (c / 64) ∷ next c ∷ [])))) ≡ true
    one true is = λ i. low-shown c (ltb-true c 128 is) plain i && true
    one false is = last (ltb c 2048) (ltb c 65536)

-- two texts without a control byte have none together
pub both-shown : (old new : List ℕ) → has_no_control old ≡ true → has_no_control new ≡ true →
    has_no_control (old ++ new) ≡ true
both-shown old new h k = list_all-append is_shown old new ∙ (λ i. h i && k i)

-- where it was pushed, the text has none, as before
pub push-shown : {E : Type 0} (r : Result (Unit {0}) E) (old new : List ℕ) (c : ℕ) → is_control c ≡ false
    → new ≡ (if is_ok r then old ++ encode_utf8 c else old) → has_no_control old ≡ true →
    OnOk r (has_no_control new ≡ true)
push-shown (Ok x) old new c plain is h = ap has_no_control is ∙ both-shown old (encode_utf8 c) h (encode-shown c plain)
push-shown (Err e) old new c plain is h = tt
