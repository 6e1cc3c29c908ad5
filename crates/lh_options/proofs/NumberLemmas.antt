-- A row that fits gives its option a number in the range
use Rattle.std.proofs.Common.{◌≡◌, ◌∙◌, ◌<◌, ◌==◌, ◌&&◌, ℕ, Bool, true, false, refl, ap, subst, arith, List, [], ◌∷◌}
use Rattle.std.proofs.Common.{length, nat_lt, Some, None, cond, drop, pos, if◌then◌else◌}
use Rattle.std.specs.Prelude.{find, option_map, option_and_then, slice_get, unwrap_or}
use Rattle.std.specs.Str.{bytes_eq}
use Rattle.std.specs.Char.{digit_value}
use Rattle.std.specs.Str.Parse.{digits_value, starts_with_minus, without_leading_plus, without_leading_sign}
use Rattle.std.proofs.lemmas.Bool.{eqb-true, false≢true}
use Rattle.std.proofs.lemmas.Int.{ints}
use Rattle.clap.specs.Values.{IsSignedIn, read_as, refused_kind}
use Rattle.clap.specs.declared.builder.value_parser.ValueParser.{ValueParser}
use Rattle.clap.specs.ValueTests.{accepts, is_numeral}
use Rattle.clap.specs.Lexer.{without_minus}
use Rattle.clap.specs.Kinds.{value_kinds, values_kinds}
use Rattle.clap.specs.Walk.{Row, Text, one_of, row_text}
use Rattle.clap.specs.declared.builder.value_parser.Reading.TheVariants.{WithoutMinus}
use Rattle.clap.proofs.ValueTestLemmas.{accepts-Accepts}
use Rattle.clap.proofs.WalkLemmas.{both}
use Rattle.lh_options.specs.OptionSteps.{HasNumber}
use Rattle.lh_options.proofs.RowLemmas.{Fits, or_else-nil, range}

without_minus-cond : (t : Text) → without_minus t ≡ cond (starts_with_minus t) (drop 1 t) t
without_minus-cond [] = refl
without_minus-cond (x ∷ xs) = go (x == 45)
  where
    go : (b : Bool) → unwrap_or (cond b (Some xs) None) (x ∷ xs) ≡ cond b xs (x ∷ xs)
    go true = refl
    go false = refl

both-true : (a b : Bool) → (a && b) ≡ true → a ≡ true
both-true true b e = refl
both-true false b e = cc

passed-value : (p : ValueParser) (v : Text) (vs : List Text) → values_kinds false p (v ∷ vs) ≡ [] →
    accepts false p v ≡ true
passed-value p v vs e = go (accepts false p v) (or_else-nil (value_kinds false p v) (values_kinds false p vs) e).0
  where
    go : (b : Bool) → (if b then [] else refused_kind p ∷ []) ≡ [] → b ≡ true
    go true f = refl
    go false f = cc

-- digits have no plus before them
no-plus : (ds : Text) → is_numeral ds ≡ true → without_leading_plus ds ≡ ds
no-plus [] e = cc
no-plus (x ∷ xs) e = go (x == 43) refl
  where
    digit : nat_lt (digit_value x) 10 ≡ true
    digit = (both (nat_lt (digit_value x) 10) _ (both (nat_lt 0 (length (x ∷ xs))) _ e).1).0

    go : (b : Bool) → (x == 43) ≡ b → drop (cond b 1 0) (x ∷ xs) ≡ x ∷ xs
    go true plus =
        let is : x ≡ 43 = eqb-true x 43 plus in
        absurd (false≢true (subst (λ (d : ℕ). nat_lt (digit_value d) 10 ≡ true) is digit))
    go false plus = refl

module _ (name default : Text) (least most : ℕ) (rows : List Row) (r : Row)
    (found : find (λ r. bytes_eq r.id name) rows ≡ Some r) where
  from-value : (v : Text) (vs : List Text) → r.values ≡ v ∷ vs → r.reading ≡ WithoutMinus →
      accepts false (range name default least most) v ≡ true → HasNumber rows name least most
  from-value v vs is reading accepted = go (starts_with_minus v) refl
    where
      passed : IsSignedIn (pos least) (pos most) v
      passed = accepts-Accepts false (range name default least most) v accepted

      first : slice_get r.values 0 ≡ Some v
      first = ap (λ (l : List Text). slice_get l 0) is

      read : one_of name rows ≡ Some (cond (starts_with_minus v) (drop 1 v) v)
      read =
          ap (option_and_then row_text) found ∙ ap (λ how. option_map (read_as how) (slice_get r.values 0)) reading
          ∙ ap (option_map without_minus) first
          ∙ ap (λ (t : Text). Some t) (without_minus-cond v)

      digits : is_numeral (without_leading_sign v) ≡ true
      digits = both-true (is_numeral (without_leading_sign v)) _ accepted

      go : (b : Bool) → starts_with_minus v ≡ b → HasNumber rows name least most
      go true minus =
          let low = rw minus at passed.2 in
          let bare = no-plus (drop 1 v) (rw minus at digits) in
          let value : digits_value 10 (without_leading_plus (drop 1 v)) ≡ digits_value 10 (drop 1 v) =
          ap (digits_value 10) bare in
          record {
            text = drop 1 v;
            as_read = rw minus at read;
            numeral = ap is_numeral bare ∙ rw minus at digits;
            low = omega (arith, ints);
            high = omega (arith, ints);
          }
      go false plain =
          let low = rw plain at passed.2 in
          let high = rw plain at passed.3 in
          record {
            text = v;
            as_read = rw plain at read;
            numeral = rw plain at digits;
            low = omega (arith, ints);
            high = omega (arith, ints);
          }

  -- a row that fits gives its option a number in the range
  pub number-fits : Fits name default least most r → HasNumber rows name least most
  number-fits fits = go r.values refl fits.values fits.filled
    where
      go : (l : List Text) → r.values ≡ l → values_kinds false (range name default least most) l ≡ [] → 0 < length l →
          HasNumber rows name least most
      go [] is e some = absurd (omega arith)
      go (v ∷ vs) is e some = from-value v vs is fits.reading (passed-value (range name default least most) v vs e)
