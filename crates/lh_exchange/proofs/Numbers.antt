-- Lengths as decimal numbers.
use Rattle.std.proofs.Common.{◌≡◌, ◌≢◌, ℕ, ◌+◌, ◌-◌, ◌<◌, ◌≤◌, Bool, true, false, List}
use Rattle.std.proofs.Common.{[], ◌∷◌, None, Some, length, drop, refl, ap, sym, ◌∙◌, ◌==◌, arith, get_or}
use Rattle.std.proofs.Common.{drop-cons, add-one}
use Rattle.std.specs.Prelude.{Ok, Err}
use Rattle.std.proofs.lemmas.Bool.Decides.{nat_tests}
use Rattle.std.proofs.lemmas.Grind.{common_steps}
use Rattle.lh_exchange.specs.Cdb.{behind_number, is_decimal_digit, length_until, number_until, with_digit}
use Rattle.lh_exchange.specs.declared.fault.StreamFault.TheVariants.{NoEnd, NotARecord}

at_mark : (b : Bool) (mark n c : ℕ) (cs : List ℕ) → (c == mark) ≡ b → c ≡ mark →
    number_until mark n (c ∷ cs) ≡ Ok (n, cs)
unfolding number_until
at_mark true mark n c cs e h = rw e refl
at_mark false mark n c cs e h = absurd (grind (arith, nat_tests))

-- a number ends in front of its mark
pub number_ends : (mark n : ℕ) (cs : List ℕ) → number_until mark n (mark ∷ cs) ≡ Ok (n, cs)
number_ends mark n cs = at_mark (mark == mark) mark n mark cs refl refl

elsewhere : (b : Bool) (mark n c : ℕ) (cs : List ℕ) → (c == mark) ≡ b → c ≢ mark →
    number_until mark n (c ∷ cs) ≡ behind_number (with_digit n c) (λ m. number_until mark m cs)
unfolding number_until
elsewhere true mark n c cs e h = absurd (h (grind (arith, nat_tests)))
elsewhere false mark n c cs e h = rw e refl

-- a number goes on where another byte stands
pub number_goes_on : (mark n c : ℕ) (cs : List ℕ) → c ≢ mark →
    number_until mark n (c ∷ cs) ≡ behind_number (with_digit n c) (λ m. number_until mark m cs)
number_goes_on mark n c cs h = elsewhere (c == mark) mark n c cs refl h

first_of : (xs : List ℕ) (i : ℕ) → i < length xs → drop i xs ≡ get_or xs i 0 ∷ drop (i + 1) xs
first_of xs i h = rw (add-one, drop-cons xs i 0) refl

-- the loop over the digits of a number: at the mark, at what is no digit that may stand there, at a digit, and at the
-- end
pub stops_at_mark : (mark n : ℕ) (xs : List ℕ) (i : ℕ) → i < length xs → get_or xs i 0 ≡ mark →
    number_until mark n (drop i xs) ≡ Ok (n, drop (i + 1) xs)
stops_at_mark mark n xs i lt e = rw (first_of xs i lt, e) (number_ends mark n (drop (i + 1) xs))

pub stops_elsewhere : (mark n : ℕ) (xs : List ℕ) (i : ℕ) → i < length xs → get_or xs i 0 ≢ mark →
    None ≡ with_digit n (get_or xs i 0) → number_until mark n (drop i xs) ≡ Err NotARecord
stops_elsewhere mark n xs i lt h e =
    rw (first_of xs i lt)
    (number_goes_on mark n (get_or xs i 0) (drop (i + 1) xs) h
    ∙ ap (λ r. behind_number r (λ m. number_until mark m (drop (i + 1) xs))) (sym e))

pub goes_on : (mark n m : ℕ) (xs : List ℕ) (i : ℕ) → i < length xs → get_or xs i 0 ≢ mark →
    Some m ≡ with_digit n (get_or xs i 0) →
    number_until mark n (drop i xs) ≡ number_until mark m (drop (i + 1) xs)
goes_on mark n m xs i lt h e =
    rw (first_of xs i lt)
    (number_goes_on mark n (get_or xs i 0) (drop (i + 1) xs) h
    ∙ ap (λ r. behind_number r (λ m. number_until mark m (drop (i + 1) xs))) (sym e))

nothing_left : (mark n : ℕ) (xs : List ℕ) → length xs ≡ 0 → number_until mark n xs ≡ Err NoEnd
unfolding number_until
nothing_left mark n [] e = refl
nothing_left mark n (c ∷ cs) e = absurd (omega arith)

pub ends_early : (mark n : ℕ) (xs : List ℕ) (i : ℕ) → length xs ≤ i → number_until mark n (drop i xs) ≡ Err NoEnd
ends_early mark n xs i le = nothing_left mark n (drop i xs) (grind (arith, common_steps))

-- a length: where nothing stands, where the first byte is no digit, and where it is one
pub no_length : (mark : ℕ) (xs : List ℕ) → length xs ≡ 0 → length_until mark xs ≡ Err NoEnd
unfolding length_until
no_length mark [] e = refl
no_length mark (c ∷ cs) e = absurd (omega arith)

pub no_first_digit : (mark : ℕ) (xs : List ℕ) → 0 < length xs → is_decimal_digit (get_or xs 0 0) ≡ false →
    length_until mark xs ≡ Err NotARecord
unfolding length_until
no_first_digit mark [] lt e = absurd (omega arith)
no_first_digit mark (c ∷ cs) lt e = rw e refl

pub first_digit : (mark : ℕ) (xs : List ℕ) → 0 < length xs → is_decimal_digit (get_or xs 0 0) ≡ true →
    length_until mark xs ≡ number_until mark (get_or xs 0 0 - 48) (drop 1 xs)
unfolding length_until
first_digit mark [] lt e = absurd (omega arith)
first_digit mark (c ∷ cs) lt e = rw e refl

pub ruleset first_digits = (no_length, no_first_digit, first_digit)
