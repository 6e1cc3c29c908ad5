-- Sums over a list that changes at one place, and how often a number stands in one
use Rattle.std.proofs.Common.{◌≡◌, ℕ, zero, suc, ◌+◌, ◌<◌, ◌≤◌, ◌≢◌, List, [], ◌∷◌, ◌++◌, set, sym, ap, arith, cond}
use Rattle.std.proofs.Common.{map, nat_eq, eq-eqb, ne_eqb, All, lt-ltb, le-ltb, refl, Bool, subst}
use Rattle.std.proofs.lemmas.List.Elements.{All-nil, All-cons}
use Rattle.std.proofs.lemmas.List.Sums.{sum_by-cons, sum_by-append}
use mathlib.Core.Logic.{dite}
use native.Mathlib.Decide.{ℕ_discrete, dec_le}
use mathlib.Core.Option.{some, some-injective, some-ne-none}
use lib.ListN.{get_elem?}
use Rattle.lh_words.specs.Sums.{total, times, once_below}

-- sums and counts of a list by its first row
pub total-cons : {A : Type 0} (g : A → ℕ) (x : A) (xs : List A) → total g (x ∷ xs) ≡ g x + total g xs
total-cons g x xs = sum_by-cons g x xs

-- a number stands in a list as often as behind its first row, and once more where it is that row
pub times-cons : (x y : ℕ) (ys : List ℕ) → times x (y ∷ ys) ≡ cond (nat_eq x y) 1 0 + times x ys
times-cons x y ys = sum_by-cons (λ z. cond (nat_eq x z) 1 0) y ys

module _ {A : Type 0} (g : A → ℕ) where
  -- a sum over two lists, and over a list with a row set
  pub total-append : (l m : List A) → total g (l ++ m) ≡ total g l + total g m
  total-append l m = sum_by-append g l m

  -- where one row of a list is set, the sum changes by that row alone
  pub total-set : (l : List A) (j : ℕ) (v w : A) → get_elem? l j ≡ some v → total g (set l j w) + g v ≡ total g l + g w
  total-set [] j v w e = absurd (some-ne-none v (sym e))
  total-set (x ∷ xs) zero v w e = omega (arith, total-cons g x xs, total-cons g w xs, ap g (some-injective x v e))
  total-set (x ∷ xs) (suc j) v w e = omega (arith, total-cons g x xs, total-cons g x (set xs j w), total-set xs j v w e)

  -- no row, and no two, are more than the sum
  pub term_le : (l : List A) (j : ℕ) (v : A) → get_elem? l j ≡ some v → g v ≤ total g l
  term_le [] j v e = absurd (some-ne-none v (sym e))
  term_le (x ∷ xs) zero v e = omega (arith, total-cons g x xs, ap g (some-injective x v e))
  term_le (x ∷ xs) (suc j) v e = omega (arith, total-cons g x xs, term_le xs j v e)

  -- two rows at different places are together no more than the sum
  pub terms_le : (l : List A) (j k : ℕ) (v u : A) → k ≢ j → get_elem? l j ≡ some v → get_elem? l k ≡ some u →
      g v + g u ≤ total g l
  terms_le [] j k v u n e d = absurd (some-ne-none v (sym e))
  terms_le (x ∷ xs) zero zero v u n e d = absurd (n refl)
  terms_le (x ∷ xs) zero (suc k) v u n e d =
      omega (arith, total-cons g x xs, ap g (some-injective x v e), term_le xs k u d)
  terms_le (x ∷ xs) (suc j) zero v u n e d =
      omega (arith, total-cons g x xs, ap g (some-injective x u d), term_le xs j v e)
  terms_le (x ∷ xs) (suc j) (suc k) v u n e d =
      omega (arith, total-cons g x xs, terms_le xs j k v u (λ h. n (ap suc h)) e d)

-- a sum of what is less is less
pub total-le : {A : Type 0} (f g : A → ℕ) (l : List A) → ((j : ℕ) (v : A) → get_elem? l j ≡ some v → f v ≤ g v) →
    total f l ≤ total g l
total-le f g [] h = omega arith
total-le f g (x ∷ xs) h =
    omega (arith, total-cons f x xs, total-cons g x xs, h 0 x refl, total-le f g xs (λ j v e. h (suc j) v e))

-- how often a number stands in two lists
pub times-append : (x : ℕ) (l m : List ℕ) → times x (l ++ m) ≡ times x l + times x m
times-append x l m = sum_by-append (λ z. cond (nat_eq x z) 1 0) l m

-- a number below n is counted once below n, and no other is
pub once-yes : (x n : ℕ) → x < n → once_below x n ≡ 1
once-yes x n h = ap (λ b. cond b 1 0) (lt-ltb x n h)

-- a number that isn't below n isn't counted below n
pub once-no : (x n : ℕ) → n ≤ x → once_below x n ≡ 0
once-no x n h = ap (λ b. cond b 1 0) (le-ltb x n h)

-- a list of one number
pub same-yes : (x y : ℕ) → x ≡ y → times x (y ∷ []) ≡ 1
same-yes x y e = let P : Bool → Type 0 = λ b. 0 + cond b 1 0 ≡ 1 in subst P (sym (eq-eqb x y e)) refl

-- in a list of one number no other number stands
pub same-no : (x y : ℕ) → x ≢ y → times x (y ∷ []) ≡ 0
same-no x y n = let P : Bool → Type 0 = λ b. 0 + cond b 1 0 ≡ 0 in subst P (sym (ne_eqb x y n)) refl

-- the number n comes once more below n + 1
pub once-more : (x n : ℕ) → once_below x (n + 1) ≡ once_below x n + times x (n ∷ [])
once-more x n = dite (ℕ_discrete x n)
    (λ e. omega (arith, same-yes x n e, once-yes x (n + 1) (omega arith), once-no x n (omega arith)))
    (λ ne. dite (dec_le n x)
    (λ h. omega (arith, same-no x n ne, once-no x (n + 1) (omega arith), once-no x n h))
    (λ h. omega (arith, same-no x n ne, once-yes x (n + 1) (omega arith), once-yes x n (omega arith))))

-- all numbers of a list are below n, where none from n on stands in it
pub all-below : (n : ℕ) (l : List ℕ) → ((x : ℕ) → times x l ≤ once_below x n) → All (λ x. x < n) l
all-below n [] h = All-nil (λ x. x < n)
all-below n (y ∷ ys) h = All-cons (λ x. x < n) y ys
    (dite (dec_le n y)
    (λ le. absurd (omega (arith, h y, times-cons y y ys, times-cons y y [], same-yes y y refl, once-no y n le)))
    (λ lt. omega arith))
    (all-below n ys (λ x. omega (arith, h x, times-cons x y ys)))

-- a sum of sums
pub total-sum : {A : Type 0} (f g : A → ℕ) (l : List A) → total (λ x. f x + g x) l ≡ total f l + total g l
total-sum f g [] = omega arith
total-sum f g (x ∷ xs) =
    omega (arith, total-cons (λ z. f z + g z) x xs, total-cons f x xs, total-cons g x xs, total-sum f g xs)

-- a sum over a list that is made of another
pub total-map : {A B : Type 0} (g : B → ℕ) (f : A → B) (l : List A) → total g (map f l) ≡ total (λ a. g (f a)) l
total-map g f [] = refl
total-map g f (x ∷ xs) = omega (arith, total-cons g (f x) (map f xs), total-cons (λ a. g (f a)) x xs, total-map g f xs)
