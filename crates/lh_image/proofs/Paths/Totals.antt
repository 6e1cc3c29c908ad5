-- A sum over all pages is the sum over the paths.
use Rattle.std.proofs.Common.{◌≡◌, ℕ, zero, suc, ◌+◌, ◌-◌, ◌<◌, ◌≤◌, inl, inr, Bool, true, false, cond, ◌||◌, eqb, List}
use Rattle.std.proofs.Common.{[], ◌∷◌, length, drop, refl, sym, ap, ◌∙◌, arith, length-drop}
use Rattle.std.specs.List.{list_any, range_with_len, sum_by}
use Rattle.std.proofs.lemmas.Bool.{cases_Bool, cases_eq, eqb-true, eq-eqb, ne_eqb, or_left, or_right, both_ways}
use Rattle.std.proofs.lemmas.Bool.{false_from_ne_true}
use Rattle.std.proofs.lemmas.List.Sums.{sum_by-cons}
use Rattle.lh_image.specs.Chains.{stands_in, IsPath, IsCovered}
use Rattle.lh_image.proofs.Paths.Walks.{path_at, path_only}

-- of the numbers that stand in a list alone
abbrev only : List ℕ → (ℕ → ℕ) → ℕ → ℕ
only xs f p = cond (stands_in xs p) (f p) 0

sum_zero : (g : ℕ → ℕ) (a n : ℕ) → ((p : ℕ) → a ≤ p → p < a + n → g p ≡ 0) → sum_by g (range_with_len a n) ≡ 0
sum_zero g a zero all = refl
sum_zero g a (suc n) all =
    sum_by-cons g a (range_with_len (a + 1) n)
    ∙ rw (all a (omega arith) (omega arith), sum_zero g (a + 1) n (λ p low high. all p (omega arith) (omega arith)))
    refl

sum_plus : (f g h : ℕ → ℕ) (a n : ℕ) → ((p : ℕ) → a ≤ p → p < a + n → f p ≡ g p + h p) →
    sum_by f (range_with_len a n) ≡ sum_by g (range_with_len a n) + sum_by h (range_with_len a n)
sum_plus f g h a zero all = refl
sum_plus f g h a (suc n) all =
    let here = all a (omega arith) (omega arith) in
    let rest = sum_plus f g h (a + 1) n (λ p low high. all p (omega arith) (omega arith)) in
    omega (
      arith,
      sum_by-cons f a (range_with_len (a + 1) n),
      sum_by-cons g a (range_with_len (a + 1) n),
      sum_by-cons h a (range_with_len (a + 1) n),
    )

-- functions that agree in a range have the same sum over it
pub sum_same : (f g : ℕ → ℕ) (a n : ℕ) → ((p : ℕ) → a ≤ p → p < a + n → f p ≡ g p) →
    sum_by f (range_with_len a n) ≡ sum_by g (range_with_len a n)
sum_same f g a zero all = refl
sum_same f g a (suc n) all =
    let here = all a (omega arith) (omega arith) in
    let rest = sum_same f g (a + 1) n (λ p low high. all p (omega arith) (omega arith)) in
    omega (arith, sum_by-cons f a (range_with_len (a + 1) n), sum_by-cons g a (range_with_len (a + 1) n))

sum_one : (f : ℕ → ℕ) (x a n : ℕ) → a ≤ x → x < a + n → sum_by (λ p. cond (eqb x p) (f p) 0) (range_with_len a n) ≡ f x
sum_one f x a zero low high = absurd (omega arith)
sum_one f x a (suc n) low high =
    sum_by-cons (λ p. cond (eqb x p) (f p) 0) a (range_with_len (a + 1) n) ∙ elim (cases_eq x a) [
      | inl same ↦
          let none : sum_by (λ p. cond (eqb x p) (f p) 0) (range_with_len (a + 1) n) ≡ 0 =
          sum_zero (λ p. cond (eqb x p) (f p) 0) (a + 1) n (λ p l h. rw (ne_eqb x p (λ e. omega arith)) refl) in
          rw (eq-eqb x a same, none) (omega (arith, ap f same))
      | inr other ↦ rw (ne_eqb x a other, sum_one f x (a + 1) n (omega arith) (omega arith)) (omega arith)
    ]

-- a path has its first page no second time
tail_clear : (next : ℕ → ℕ) (x : ℕ) (xs : List ℕ) (p : ℕ) → IsPath next p (x ∷ xs) → stands_in xs x ≡ false
tail_clear next x xs p path = false_from_ne_true (stands_in xs x) (λ here.
    let again : stands_in xs p ≡ true = rw (← path.0) here in
    let at = path_at next xs (next p) p path.2 again in
    let e = path_only next (drop at.0 xs) (x ∷ xs) p at.3 path in
    omega (arith, length-drop at.0 xs, ap length e))

split_or : (a b : Bool) (v : ℕ) → (a ≡ true → b ≡ false) → cond (a || b) v 0 ≡ cond a v 0 + cond b v 0
split_or true true v h = absurd (both_ways true (h refl) refl)
split_or true false v h = omega arith
split_or false b v h = omega arith

-- the sum over a path, as a sum over the pages that stand in it
pub sum_path : (next f : ℕ → ℕ) (a n : ℕ) (xs : List ℕ) (p : ℕ) → IsPath next p xs →
    ((q : ℕ) → stands_in xs q ≡ true → (a ≤ q) × (q < a + n)) →
    sum_by (only xs f) (range_with_len a n) ≡ sum_by f xs
unfolding stands_in
sum_path next f a n [] p path within = sum_zero (only [] f) a n (λ q l h. refl)
sum_path next f a n (x ∷ xs) p path within =
    let here = within x (or_left (eqb x x) (list_any (λ q. eqb q x) xs) (eq-eqb x x refl)) in
    let rest =
    sum_path next f a n xs (next p) path.2 (λ q h. within q (or_right (eqb x q) (list_any (λ r. eqb r q) xs) h)) in
    let cut = sum_plus (only (x ∷ xs) f) (λ q. cond (eqb x q) (f q) 0) (only xs f) a n (λ q l h.
    split_or (eqb x q) (stands_in xs q) (f q)
    (λ e. ap (stands_in xs) (sym (eqb-true x q e)) ∙ tail_clear next x xs p path)) in
    omega (arith, sum_by-cons f x xs, sum_one f x a n here.0 here.1)

-- each bucket has a path from its head, of pages of its bucket alone
pub record AreOwnPaths (next bucket : ℕ → ℕ) (S P : ℕ) (path : ℕ → List ℕ) : Type 0 where
  pub follows : (i : ℕ) → i < S → IsPath next (1 + i) (path i)
  pub own : (i p : ℕ) → i < S → stands_in (path i) p ≡ true → (1 ≤ p) × (p < P) × (bucket p ≡ i)

-- the sum over the first m buckets' paths is the sum over the pages of these buckets
sum_buckets : (next bucket : ℕ → ℕ) (S P : ℕ) (path : ℕ → List ℕ) (f : ℕ → ℕ) → AreOwnPaths next bucket S P path →
    (m i : ℕ) → i + m ≤ S →
    sum_by (λ j. sum_by f (path j)) (range_with_len i m) ≡
    sum_by (λ p. sum_by (λ j. only (path j) f p) (range_with_len i m)) (range_with_len 1 (P - 1))
sum_buckets next bucket S P path f covered zero i le = sym (sum_zero (λ p. 0) 1 (P - 1) (λ p l h. refl))
sum_buckets next bucket S P path f covered (suc m) i le =
    let rest = sum_buckets next bucket S P path f covered m (i + 1) (omega arith) in
    let mine =
    sum_path next f 1 (P - 1) (path i) (1 + i) (covered.follows i (omega arith))
    (λ q h. let o = covered.own i q (omega arith) h in (o.0, omega (arith, o.1))) in
    let cut =
    sum_plus (λ p. sum_by (λ j. only (path j) f p) (range_with_len i (suc m))) (only (path i) f)
    (λ p. sum_by (λ j. only (path j) f p) (range_with_len (i + 1) m)) 1 (P - 1)
    (λ p l h. sum_by-cons (λ j. only (path j) f p) i (range_with_len (i + 1) m)) in
    omega (arith, sum_by-cons (λ j. sum_by f (path j)) i (range_with_len (i + 1) m))

-- a page counts in the path of its own bucket alone
own_sum : (next bucket : ℕ → ℕ) (S P : ℕ) (path : ℕ → List ℕ) (f : ℕ → ℕ) → AreOwnPaths next bucket S P path →
    (p : ℕ) → bucket p < S →
    sum_by (λ j. only (path j) f p) (range_with_len 0 S) ≡ only (path (bucket p)) f p
own_sum next bucket S P path f paths p below =
    sum_same (λ j. only (path j) f p) (λ j. cond (eqb (bucket p) j) (only (path (bucket p)) f p) 0) 0 S
    (λ j l h. elim (cases_eq (bucket p) j) [
      | inl same ↦ rw (eq-eqb (bucket p) j same, ← same) refl
      | inr other ↦
          let off : stands_in (path j) p ≡ false =
          false_from_ne_true (stands_in (path j) p) (λ t. other (paths.own j p (omega arith) t).2) in
          rw (ne_eqb (bucket p) j other, off) refl
    ]) ∙ sum_one (λ _. only (path (bucket p)) f p) (bucket p) 0 S (omega arith) (omega (arith, below))

-- the sum over the paths of all buckets is the sum over all pages
pub sum_covered : (next bucket : ℕ → ℕ) (S P : ℕ) (path : ℕ → List ℕ) (f : ℕ → ℕ) → IsCovered next bucket S P path →
    sum_by (λ j. sum_by f (path j)) (range_with_len 0 S) ≡ sum_by f (range_with_len 1 (P - 1))
sum_covered next bucket S P path f covered =
    let paths : AreOwnPaths next bucket S P path = record { follows = covered.follows; own = covered.own } in
    sum_buckets next bucket S P path f paths S 0 (omega arith)
    ∙ sum_same (λ p. sum_by (λ j. only (path j) f p) (range_with_len 0 S)) f 1 (P - 1) (λ p low high.
    let at = covered.all p low (omega arith) in
    own_sum next bucket S P path f paths p at.0 ∙ rw at.1 refl)

-- ---- paths that have as many pages as there are

-- no more pass a test than there are
passed_few : (t : ℕ → Bool) (a n : ℕ) → sum_by (λ p. cond (t p) 1 0) (range_with_len a n) ≤ n
passed_few t a zero = omega arith
passed_few t a (suc n) =
    let rest = passed_few t (a + 1) n in
    let cut = sum_by-cons (λ p. cond (t p) 1 0) a (range_with_len (a + 1) n) in
    elim (cases_Bool (t a)) [
      | inl passes ↦ let one : ◌≡◌ {A = ℕ} (cond (t a) 1 0) 1 = rw passes refl in omega (arith, rest, cut, one)
      | inr fails ↦ let one : ◌≡◌ {A = ℕ} (cond (t a) 1 0) 0 = rw fails refl in omega (arith, rest, cut, one)
    ]

-- where as many pass a test as there are, all pass it
all_passed : (t : ℕ → Bool) (a n : ℕ) → sum_by (λ p. cond (t p) 1 0) (range_with_len a n) ≡ n → (p : ℕ) → a ≤ p →
    p < a + n → t p ≡ true
all_passed t a zero e p low high = absurd (omega arith)
all_passed t a (suc n) e p low high =
    let rest = passed_few t (a + 1) n in
    let cut = sum_by-cons (λ p. cond (t p) 1 0) a (range_with_len (a + 1) n) in
    elim (cases_Bool (t a)) [
      | inl passes ↦
          let one : ◌≡◌ {A = ℕ} (cond (t a) 1 0) 1 = rw passes refl in
          elim (cases_eq p a) [
            | inl same ↦ ap t same ∙ passes
            | inr other ↦ all_passed t (a + 1) n (omega (arith, e, cut, one)) p (omega arith) (omega arith)
          ]
      | inr fails ↦
          let one : ◌≡◌ {A = ℕ} (cond (t a) 1 0) 0 = rw fails refl in
          absurd (omega (arith, e, cut, one, rest))
    ]

ones : (xs : List ℕ) → sum_by (λ _. 1) xs ≡ length xs
ones [] = refl
ones (x ∷ xs) = sum_by-cons (λ _. 1) x xs ∙ omega (arith, ones xs)

-- Where the paths of all buckets have as many pages as there are, each page stands on one.
pub covered_by_count : (next bucket : ℕ → ℕ) (S P : ℕ) (path : ℕ → List ℕ) → AreOwnPaths next bucket S P path →
    ((p : ℕ) → 1 ≤ p → p < P → bucket p < S) →
    sum_by (λ i. length (path i)) (range_with_len 0 S) ≡ P - 1 → IsCovered next bucket S P path
covered_by_count next bucket S P path paths below count =
    let counted : sum_by (λ p. only (path (bucket p)) (λ _. 1) p) (range_with_len 1 (P - 1)) ≡ P - 1 =
    sym (sum_same (λ p. sum_by (λ j. only (path j) (λ _. 1) p) (range_with_len 0 S))
    (λ p. only (path (bucket p)) (λ _. 1) p) 1 (P - 1)
    (λ p low high. own_sum next bucket S P path (λ _. 1) paths p (below p low (omega arith))))
    ∙ sym (sum_buckets next bucket S P path (λ _. 1) paths S 0 (omega arith))
    ∙ sum_same (λ j. sum_by (λ _. 1) (path j)) (λ j. length (path j)) 0 S (λ j low high. ones (path j)) ∙ count in
    record {
      follows = paths.follows;
      own = paths.own;
      all = λ p low high.
          (below p low high, all_passed (λ q. stands_in (path (bucket q)) q) 1 (P - 1) counted p low (omega arith));
    }
