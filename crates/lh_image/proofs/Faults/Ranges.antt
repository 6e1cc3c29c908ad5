-- Tests over the numbers from a on: the first that passes, whether one does, and how many do
use Rattle.std.proofs.Common.{◌≡◌, ◌≢◌, ℕ, zero, suc, ◌+◌, ◌<◌, ◌≤◌, inl, inr, ◌↔◌, Bool, true, false, cond, Some, None}
use Rattle.std.proofs.Common.{refl, sym, ap, ◌∙◌, arith}
use Rattle.std.specs.List.{range_with_len, list_any, find, count_by}
use Rattle.std.proofs.lemmas.Bool.{cases_eq, cases_Bool, false≢true, or_cases, or_left, or_right}
use Rattle.std.proofs.lemmas.List.Sums.{sum_by-cons}

-- no number passes
pub find_none : (f : ℕ → Bool) (a n : ℕ) → find f (range_with_len a n) ≡ None → (p : ℕ) → a ≤ p → p < a + n →
    f p ≡ false
find_none f a zero e p low high = absurd (omega arith)
find_none f a (suc n) e p low high =
    (elim (f a) as (λ b. f a ≡ b → cond b (Some a) (find f (range_with_len (a + 1) n)) ≡ None → f p ≡ false) [
      | true ↦ λ _ g. absurd cc
      | false ↦ λ here g. elim (cases_eq p a) [
        | inl same ↦ ap f same ∙ here
        | inr other ↦ find_none f (a + 1) n g p (omega arith) (omega arith)
      ]
    ]) refl e

-- where no number passes, none is found
pub none_found : (f : ℕ → Bool) (a n : ℕ) → ((p : ℕ) → a ≤ p → p < a + n → f p ≡ false) →
    find f (range_with_len a n) ≡ None
none_found f a zero all = refl
none_found f a (suc n) all =
    rw (all a (omega arith) (omega arith)) (none_found f (a + 1) n (λ p low high. all p (omega arith) (omega arith)))

-- where the test for any number holds, there is a number that passes
pub any_of : (f : ℕ → Bool) (a n : ℕ) → list_any f (range_with_len a n) ≡ true →
    (p : ℕ) × (a ≤ p) × (p < a + n) × (f p ≡ true)
any_of f a zero e = absurd (false≢true e)
any_of f a (suc n) e = elim (or_cases (f a) (list_any f (range_with_len (a + 1) n)) e) [
  | inl here ↦ (a, omega arith, omega arith, here)
  | inr later ↦ let r = any_of f (a + 1) n later in (r.0, omega (arith, r.1), omega (arith, r.2), r.3)
]

-- where there is a number that passes, the test for any number holds
pub any_from : (f : ℕ → Bool) (a n p : ℕ) → a ≤ p → p < a + n → f p ≡ true → list_any f (range_with_len a n) ≡ true
any_from f a zero p low high here = absurd (omega arith)
any_from f a (suc n) p low high here = elim (cases_eq p a) [
  | inl same ↦ or_left (f a) (list_any f (range_with_len (a + 1) n)) (ap f (sym same) ∙ here)
  | inr other ↦
      or_right (f a) (list_any f (range_with_len (a + 1) n)) (any_from f (a + 1) n p (omega arith) (omega arith) here)
]

-- the count of numbers that pass is that of the first one and that of the others
pub count_cons : (f : ℕ → Bool) (a n : ℕ) →
    count_by f (range_with_len a (suc n)) ≡ cond (f a) 1 0 + count_by f (range_with_len (a + 1) n)
count_cons f a n = sum_by-cons (λ x. cond (f x) 1 0) a (range_with_len (a + 1) n)

-- where a number passes, at least one is counted
pub count_one : (f : ℕ → Bool) (a n p : ℕ) → a ≤ p → p < a + n → f p ≡ true → 1 ≤ count_by f (range_with_len a n)
count_one f a zero p low high here = absurd (omega arith)
count_one f a (suc n) p low high here = rw (count_cons f a n) (elim (cases_eq p a) [
  | inl same ↦ let at : f a ≡ true = ap f (sym same) ∙ here in rw at (omega arith)
  | inr other ↦ omega (arith, count_one f (a + 1) n p (omega arith) (omega arith) here)
])

-- where two numbers pass, at least two are counted
pub count_two : (f : ℕ → Bool) (a n p q : ℕ) → a ≤ p → p < q → q < a + n → f p ≡ true → f q ≡ true →
    2 ≤ count_by f (range_with_len a n)
count_two f a zero p q low lt high here there = absurd (omega arith)
count_two f a (suc n) p q low lt high here there = rw (count_cons f a n) (elim (cases_eq p a) [
  | inl same ↦ let at : f a ≡ true =
      ap f (sym same) ∙ here in rw at (omega (arith, count_one f (a + 1) n q (omega arith) (omega arith) there))
  | inr other ↦ omega (arith, count_two f (a + 1) n p q (omega arith) lt (omega arith) here there)
])

-- where no number passes, none is counted
pub count_none : (f : ℕ → Bool) (a n : ℕ) → ((p : ℕ) → a ≤ p → p < a + n → f p ≡ true → ⊥) →
    count_by f (range_with_len a n) ≡ 0
count_none f a zero none = refl
count_none f a (suc n) none = rw (count_cons f a n) (elim (cases_Bool (f a)) [
  | inl passes ↦ absurd (none a (omega arith) (omega arith) passes)
  | inr fails ↦ rw (fails, count_none f (a + 1) n (λ p low high. none p (omega arith) (omega arith))) refl
])

-- where no two numbers pass, at most one is counted
pub count_few : (f : ℕ → Bool) (a n : ℕ) → ((p q : ℕ) → a ≤ p → p < q → q < a + n → f p ≡ true → f q ≡ true → ⊥) →
    count_by f (range_with_len a n) ≤ 1
count_few f a zero one = omega arith
count_few f a (suc n) one = rw (count_cons f a n) (elim (cases_Bool (f a)) [
  | inl passes ↦
      rw (
        passes,
        count_none f (a + 1) n (λ p low high there. one a p (omega arith) (omega arith) (omega arith) passes there),
      )
      (omega arith)
  | inr fails ↦
      rw fails (omega (arith, count_few f (a + 1) n (λ p q low lt high. one p q (omega arith) lt (omega arith))))
])

-- ---- the first number that passes

-- two findings that are the same have found the same
pub some_is : {A : Type 0} (x y : A) → Some x ≡ Some y → x ≡ y
some_is x y e = cc

-- what is found is the least number that passes
pub found_least : (f : ℕ → Bool) (a n p : ℕ) →
    (find f (range_with_len a n) ≡ Some p) ↔
    ((a ≤ p) × (p < a + n) × (f p ≡ true) × ((q : ℕ) → a ≤ q → q < p → f q ≡ false))
found_least f a zero p = (λ e. absurd cc, λ h. absurd (omega (arith, h.0, h.1)))
found_least f a (suc n) p =
    let rest = found_least f (a + 1) n p in
    elim (cases_Bool (f a)) [
      | inl passes ↦ rw passes (
        λ e.
            let same : a ≡ p = some_is a p e in
            (omega arith, omega arith, ap f (sym same) ∙ passes, λ q low lt. absurd (omega arith)),
        λ h. elim (cases_eq p a) [
          | inl same ↦ ap Some (sym same)
          | inr other ↦ absurd (false≢true (sym (h.3 a (omega arith) (omega (arith, h.0))) ∙ passes))
        ],
      )
      | inr fails ↦ rw fails (
        λ e.
            let r = rest.0 e in (
              omega (arith, r.0),
              omega (arith, r.1),
              r.2,
              λ q low lt. elim (cases_eq q a) [
                | inl same ↦ ap f same ∙ fails
                | inr other ↦ r.3 q (omega arith) lt
              ],
            ),
        λ h.
            let other : p ≢ a = λ same. false≢true (sym fails ∙ ap f (sym same) ∙ h.2) in
            rest.1 (omega (arith, h.0), omega (arith, h.1), h.2, λ q low lt. h.3 q (omega arith) lt),
      )
    ]
