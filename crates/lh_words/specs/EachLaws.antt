-- Facts of each element of a list that changes, and sums over such a list
use Rattle.std.proofs.Common.{◌≡◌, ◌≢◌, ℕ, zero, suc, ◌+◌, ◌≤◌, ◌⊎◌, inl, inr, ⊎_elim, Bool, true, false, List, [], ◌∷◌}
use Rattle.std.proofs.Common.{◌++◌, map, set, refl, sym, ap, subst, arith}
use mathlib.Core.Option.{some, some-injective, some-ne-none}
use lib.ListN.{get_elem?}
use Rattle.atomic_table.proofs.Lists.{at_set, at_snoc}
use Rattle.lh_words.specs.History.Buckets.{bit}
use Rattle.lh_words.specs.Rule.{Each}
use Rattle.lh_words.specs.Sums.{total}
use Rattle.lh_words.specs.SumLaws.{total-append, total-set}

-- a list is made of one in which a row was set
pub map-set : {A B : Type 0} (f : A → B) (l : List A) (i : ℕ) (a : A) → map f (set l i a) ≡ set (map f l) i (f a)
map-set f [] i a = refl
map-set f (x ∷ xs) zero a = refl
map-set f (x ∷ xs) (suc i) a = ap (λ l. f x ∷ l) (map-set f xs i a)

module _ {A : Type 0} where
  -- a fact of each element, after one changed that need not have had it
  pub each_other : (P : A → Type 0) (l : List A) (id : ℕ) (w : A) →
      ((j : ℕ) (u : A) → j ≢ id → get_elem? l j ≡ some u → P u) → P w → Each (set l id w) P
  each_other P l id w all here j u e = ⊎_elim
      (λ (t : (j ≡ id) × (w ≡ u)). subst P t.1 here)
      (λ (t : (j ≢ id) × (get_elem? l j ≡ some u)). all j u t.0 t.1)
      (at_set l id j w u e)

  -- what holds of each row
  pub each_set : (P : A → Type 0) (l : List A) (id : ℕ) (w : A) → Each l P → P w → Each (set l id w) P
  each_set P l id w all here = each_other P l id w (λ j u _ e. all j u e) here

  -- after one came
  pub each_snoc : (P : A → Type 0) (l : List A) (w : A) → Each l P → P w → Each (l ++ w ∷ []) P
  each_snoc P l w all here j u e =
      ⊎_elim (λ (t : get_elem? l j ≡ some u). all j u t) (λ (t : w ≡ u). subst P t here) (at_snoc l w u j e)

  -- any fact holds of each element of an empty list
  pub each_none : (P : A → Type 0) → Each [] P
  each_none P j u e = absurd (some-ne-none u (sym e))

  -- a fact of one element is a fact of each in a list of it alone
  pub each_one : (P : A → Type 0) (w : A) → P w → Each (w ∷ []) P
  each_one P w here = each_snoc P [] w (each_none P) here

  at_append : (l m : List A) (j : ℕ) (a : A) → get_elem? (l ++ m) j ≡ some a →
      ((i : ℕ) × (get_elem? l i ≡ some a)) ⊎ ((i : ℕ) × (get_elem? m i ≡ some a))
  at_append [] m j a e = inr (j, e)
  at_append (x ∷ l) m zero a e = inl (0, e)
  at_append (x ∷ l) m (suc j) a e = ⊎_elim (λ t. inl (suc t.0, t.1)) (λ t. inr t) (at_append l m j a e)

  -- what holds of each element of two lists holds of each of the two put together
  pub each_append : (P : A → Type 0) (l m : List A) → Each l P → Each m P → Each (l ++ m) P
  each_append P l m a b j u e = ⊎_elim (λ t. a t.0 u t.1) (λ t. b t.0 u t.1) (at_append l m j u e)

  -- a sum after one was cut in two, and after two became one
  pub total-cut : (g : A → ℕ) (l : List A) (id : ℕ) (v a b : A) → get_elem? l id ≡ some v →
      total g (set l id a ++ b ∷ []) + g v ≡ total g l + g a + g b
  total-cut g l id v a b me = omega (arith, total-append g (set l id a) (b ∷ []), total-set g l id v a me)

  -- a sum over a list of which two rows were set
  pub total-glue : (g : A → ℕ) (l : List A) (id other : ℕ) (v w a b : A) → get_elem? l id ≡ some v →
      get_elem? (set l id a) other ≡ some w → total g (set (set l id a) other b) + g v + g w ≡ total g l + g a + g b
  total-glue g l id other v w a b me it = omega (arith, total-set g l id v a me, total-set g (set l id a) other w b it)

  -- who was there before another changed
  pub was_there : (l : List A) (id other : ℕ) (a w : A) → other ≢ id → get_elem? (set l id a) other ≡ some w →
      get_elem? l other ≡ some w
  was_there l id other a w apart it =
      ⊎_elim (λ (t : (other ≡ id) × (a ≡ w)). absurd (apart t.0))
      (λ (t : (other ≢ id) × (get_elem? l other ≡ some w)). t.1) (at_set l id other a w it)

-- a truth counts once at most
pub at_most_one : (b : Bool) → bit b ≤ 1
at_most_one true = omega arith
at_most_one false = omega arith

-- of a list that a function made, what stands at a place was made of what stood there
pub back_at : {A B : Type 0} (f : A → B) (l : List A) (i : ℕ) (b : B) → get_elem? (map f l) i ≡ some b →
    (a : A) × (get_elem? l i ≡ some a) × (f a ≡ b)
back_at f [] i b e = absurd (some-ne-none b (sym e))
back_at f (x ∷ l) zero b e = (x, refl, some-injective (f x) b e)
back_at f (x ∷ l) (suc i) b e = back_at f l i b e
