-- Lengths in front of a mark, written and read.
use Rattle.std.proofs.Common.{◌≡◌, ◌≢◌, ◌==◌, ◌&&◌, ℕ, ◌+◌, ◌-◌, ◌*◌, ◌/◌, ◌%◌, ◌^◌, ◌<◌, ◌≤◌, Bool, true, false, cond}
use Rattle.std.proofs.Common.{List, [], ◌∷◌, ◌++◌, Option, None, Some, refl, ap, sym, ◌∙◌, arith, append_assoc}
use Rattle.std.specs.Prelude.{Ok, Err, nat_le, nat_lt}
use Rattle.std.specs.Fmt.{decimal}
use Rattle.std.proofs.lemmas.Bool.Decides.{nat_tests}
use Rattle.std.proofs.lemmas.Fmt.{decimal_by_steps, decimal_digit, decimal_step}
use Rattle.lh_exchange.specs.Cdb.{behind_number, is_decimal_digit, length_until, number_until, with_digit}
use Rattle.lh_exchange.specs.StreamParts.{Front}
use Rattle.lh_exchange.specs.declared.fault.StreamFault.TheVariants.{NoEnd, NotARecord}
use Rattle.lh_exchange.proofs.Numbers.{number_ends, number_goes_on}

-- written and read

digit_taken : (m c k : ℕ) → 0 < m → 48 ≤ c → c ≤ 57 → k ≡ 10 * m + (c - 48) → k < 2 ^ 64 → with_digit m c ≡ Some k
unfolding with_digit
digit_taken m c k pos low high e small =
    let some : nat_lt 0 m ≡ true = grind (arith, nat_tests) in
    let above : nat_le 48 c ≡ true = grind (arith, nat_tests) in
    let below : nat_le c 57 ≡ true = grind (arith, nat_tests) in
    let sum : 10 * m + (c - 48) < 2 ^ 64 = omega arith in
    let fits : nat_lt (10 * m + (c - 48)) (2 ^ 64) ≡ true = grind (arith, nat_tests) in
    rw (some, above, below, fits) (ap (λ n. Some n) (sym e))

mark_is_no_digit : (mark c : ℕ) → is_decimal_digit mark ≡ false → 48 ≤ c → c ≤ 57 → c ≢ mark
mark_is_no_digit mark c h low high e =
    let above : nat_le 48 mark ≡ true = grind (arith, nat_tests) in
    let below : nat_le mark 57 ≡ true = grind (arith, nat_tests) in
    let bad : true ≡ false = rw (above, below) at h in
    cc

-- the digits of a number, in front of whatever stands behind them
abbrev Begins : ℕ → ℕ → List ℕ → Type 0
Begins mark n digits =
    n < 2 ^ 64 → (behind : List ℕ) → length_until mark (digits ++ behind) ≡ number_until mark n behind

one_digit : (mark n : ℕ) → n < 10 → Begins mark n ((48 + n) ∷ [])
unfolding length_until
one_digit mark n lt small behind =
    let above : nat_le 48 (48 + n) ≡ true = grind (arith, nat_tests) in
    let below : nat_le (48 + n) 57 ≡ true = grind (arith, nat_tests) in
    let value : 48 + n - 48 ≡ n = omega arith in
    rw (above, below, value) refl

more_digits : (mark n : ℕ) (digits : List ℕ) → is_decimal_digit mark ≡ false → 10 ≤ n → Begins mark (n / 10) digits →
    Begins mark n (digits ++ (48 + n % 10) ∷ [])
more_digits mark n digits h ten ih small behind =
    ap (length_until mark) (append_assoc digits ((48 + n % 10) ∷ []) behind)
    ∙ (ih (omega arith) ((48 + n % 10) ∷ behind)
    ∙ (number_goes_on mark (n / 10) (48 + n % 10) behind
    (mark_is_no_digit mark (48 + n % 10) h (omega arith) (omega arith))
    ∙ ap (λ o. behind_number o (λ m. number_until mark m behind))
    (digit_taken (n / 10) (48 + n % 10) n (omega arith) (omega arith) (omega arith) (omega arith) small)))

-- a length that was written in front of its mark is read
pub length_reads : (mark n : ℕ) (behind : List ℕ) → is_decimal_digit mark ≡ false → n < 2 ^ 64 →
    length_until mark (decimal n ++ mark ∷ behind) ≡ Ok (n, behind)
length_reads mark n behind h small =
    decimal_by_steps (Begins mark) (λ m lt. one_digit mark m lt) (λ m digits ten ih. more_digits mark m digits h ten ih)
    n small small (mark ∷ behind)
    ∙ number_ends mark n behind

-- read, and as it was written

by_tests : (a b d : Bool) (x m : ℕ) → cond (a && (b && d)) (Some x) None ≡ Some m →
    (a ≡ true) × (b ≡ true) × (d ≡ true) × (x ≡ m)
by_tests true true true x m e = (refl, refl, refl, cc)
by_tests true true false x m e = absurd (let bad : None ≡ Some m = e in cc)
by_tests true false d x m e = absurd (let bad : None ≡ Some m = e in cc)
by_tests false b d x m e = absurd (let bad : None ≡ Some m = e in cc)

-- what one more digit made
record OneMore (n c m : ℕ) : Type 0 where
  some : 0 < n
  low : 48 ≤ c
  high : c ≤ 57
  value : m ≡ 10 * n + (c - 48)
  small : m < 2 ^ 64

was_digit : (n c m : ℕ) → with_digit n c ≡ Some m → OneMore n c m
unfolding with_digit
was_digit n c m e =
    let t = by_tests (nat_lt 0 n) (is_decimal_digit c) (nat_lt (10 * n + (c - 48)) (2 ^ 64)) (10 * n + (c - 48)) m e in
    let a = t.0 in
    let b = t.1 in
    let d = t.2 in
    let x = t.3 in
    record {
      some = grind (arith, nat_tests);
      low = grind (arith, nat_tests);
      high = grind (arith, nat_tests);
      value = sym x;
      small = grind (arith, nat_tests);
    }

longer_text : (n c m : ℕ) → OneMore n c m → decimal m ≡ decimal n ++ c ∷ []
longer_text n c m h =
    let ten : 10 ≤ m = omega (arith, h.some, h.value) in
    let front : m / 10 ≡ n = omega (arith, h.low, h.high, h.value) in
    let last : 48 + m % 10 ≡ c = omega (arith, h.low, h.high, h.value) in
    decimal_step m ten h.small ∙ rw (front, last) refl

abbrev Exact : ℕ → ℕ → List ℕ → Type 0
Exact mark n bytes =
    (k : ℕ) (behind : List ℕ) → number_until mark n bytes ≡ Ok (k, behind) →
    decimal n ++ bytes ≡ decimal k ++ mark ∷ behind

same_number : (mark n c k : ℕ) (cs behind : List ℕ) → c ≡ mark →
    ◌≡◌ {A = Front ℕ} (Ok (n, cs)) (Ok (k, behind)) →
    decimal n ++ c ∷ cs ≡ decimal k ++ mark ∷ behind
same_number mark n c k cs behind e h =
    let same : ◌≡◌ {A = ℕ × List ℕ} (n, cs) (k, behind) = cc in
    let number : n ≡ k = ap (λ (p : ℕ × List ℕ). p.0) same in
    let rest : cs ≡ behind = ap (λ (p : ℕ × List ℕ). p.1) same in
    rw (e, number, rest) refl

behind_digit : (o : Option ℕ) (mark n c k : ℕ) (cs behind : List ℕ) → with_digit n c ≡ o →
    ((m : ℕ) → Exact mark m cs) → behind_number o (λ m. number_until mark m cs) ≡ Ok (k, behind) →
    decimal n ++ c ∷ cs ≡ decimal k ++ mark ∷ behind
behind_digit None mark n c k cs behind e ih h =
    absurd (let bad : ◌≡◌ {A = Front ℕ} (Err NotARecord) (Ok (k, behind)) = h in cc)
behind_digit (Some m) mark n c k cs behind e ih h =
    sym (append_assoc (decimal n) (c ∷ []) cs)
    ∙ (ap (λ digits. digits ++ cs) (sym (longer_text n c m (was_digit n c m e))) ∙ ih m k behind h)

by_mark : (b : Bool) (mark n c k : ℕ) (cs behind : List ℕ) → (c == mark) ≡ b → ((m : ℕ) → Exact mark m cs) →
    cond b (Ok (n, cs)) (behind_number (with_digit n c) (λ m. number_until mark m cs)) ≡ Ok (k, behind) →
    decimal n ++ c ∷ cs ≡ decimal k ++ mark ∷ behind
by_mark true mark n c k cs behind e ih h =
    let same : c ≡ mark = grind (arith, nat_tests) in same_number mark n c k cs behind same h
by_mark false mark n c k cs behind e ih h = behind_digit (with_digit n c) mark n c k cs behind refl ih h

number_exact : (mark : ℕ) (bytes : List ℕ) (n : ℕ) → Exact mark n bytes
unfolding number_until
number_exact mark [] n k behind h = absurd (let bad : ◌≡◌ {A = Front ℕ} (Err NoEnd) (Ok (k, behind)) = h in cc)
number_exact mark (c ∷ cs) n k behind h =
    by_mark (c == mark) mark n c k cs behind refl (λ m. number_exact mark cs m) h

first_exact : (b : Bool) (mark c k : ℕ) (cs behind : List ℕ) → is_decimal_digit c ≡ b →
    cond b (number_until mark (c - 48) cs) (Err NotARecord) ≡ Ok (k, behind) → c ∷ cs ≡ decimal k ++ mark ∷ behind
first_exact false mark c k cs behind e h =
    absurd (let bad : ◌≡◌ {A = Front ℕ} (Err NotARecord) (Ok (k, behind)) = h in cc)
first_exact true mark c k cs behind e h =
    let low : 48 ≤ c = grind (arith, nat_tests) in
    let high : c ≤ 57 = grind (arith, nat_tests) in
    let same : 48 + (c - 48) ≡ c = omega arith in
    let text : decimal (c - 48) ≡ c ∷ [] = decimal_digit (c - 48) (omega arith) ∙ ap (λ d. d ∷ []) same in
    ap (λ digits. digits ++ cs) (sym text) ∙ number_exact mark cs (c - 48) k behind h

-- a length that was read in front of its mark stands there as it is written
pub length_exact : (mark : ℕ) (bytes : List ℕ) (k : ℕ) (behind : List ℕ) → length_until mark bytes ≡ Ok (k, behind) →
    bytes ≡ decimal k ++ mark ∷ behind
unfolding length_until
length_exact mark [] k behind h = absurd (let bad : ◌≡◌ {A = Front ℕ} (Err NoEnd) (Ok (k, behind)) = h in cc)
length_exact mark (c ∷ cs) k behind h = first_exact (is_decimal_digit c) mark c k cs behind refl h
