-- Whether values and lists are the same can be told
use Rattle.std.proofs.Common.{◌≡◌, ◌≢◌, ℕ, zero, suc, ◌<◌, ◌≤◌, true, false, ◌⊎◌, inl, inr, ⊎_elim, List, [], ◌∷◌, Some}
use Rattle.std.proofs.Common.{refl, sym, ap, ◌∙◌, arith}
use Rattle.std.specs.List.{slice_get}
use Rattle.std.specs.Str.{bytes_eq}
use Rattle.std.proofs.lemmas.Bool.{cases_lt, false≢true}
use Rattle.std.proofs.lemmas.Option.{none-some, same_Some}
use Rattle.lh_bucket.specs.declared.call.Reply.{Reply as ReplyOf}
use Rattle.lh_bucket.specs.declared.call.Reply.TheVariants.{Found, Absent, Inserted, Exists, Deleted, Replaced}
use Rattle.lh_settling.specs.Acts.{FirstDiffer}
use Rattle.lh_settling.proofs.Values.{equals, itself}

-- two numbers are the same or differ
pub told_number : (m n : ℕ) → (m ≡ n) ⊎ (m ≢ n)
told_number m n = ⊎_elim
    (λ (below : m < n). inr (λ e. absurd (omega (arith, e))))
    (λ (past : n ≤ m). ⊎_elim
    (λ (below : n < m). inr (λ e. absurd (omega (arith, e))))
    (λ (back : m ≤ n). inl (let e : m ≡ n = omega arith in e))
    (cases_lt n m))
    (cases_lt m n)

-- the same of two lists of bytes
pub told_bytes : (x y : List ℕ) → (x ≡ y) ⊎ (x ≢ y)
told_bytes x y =
    elim (bytes_eq x y) as (λ b. bytes_eq x y ≡ b → (x ≡ y) ⊎ (x ≢ y)) [
      | true ↦ λ e. inl (equals x y e)
      | false ↦ λ e. inr (λ same. false≢true (sym e ∙ ap (bytes_eq x) (sym same) ∙ itself x))
    ] refl

found_same : (v w : List ℕ) → Found v ≡ Found w → v ≡ w
found_same v w e = cc

-- the same of two replies
pub told_reply : (x y : ReplyOf) → (x ≡ y) ⊎ (x ≢ y)
told_reply (Found v) (Found w) = ⊎_elim
    (λ (same : v ≡ w). inl (ap Found same))
    (λ (other : v ≢ w). inr (λ e. other (found_same v w e)))
    (told_bytes v w)
told_reply Absent Absent = inl refl
told_reply Inserted Inserted = inl refl
told_reply Exists Exists = inl refl
told_reply Deleted Deleted = inl refl
told_reply Replaced Replaced = inl refl
told_reply _ _ = inr (λ e. cc)

later : {X : Type 0} (x y : X) (xs ys : List X) (t : ℕ) → x ≡ y → FirstDiffer xs ys t
    → FirstDiffer (x ∷ xs) (y ∷ ys) (suc t)
later x y xs ys t same f = record { before = before; here = f.here }
  where
    before : (p : ℕ) → p < suc t → slice_get (x ∷ xs) p ≡ slice_get (y ∷ ys) p
    before zero b = ap Some same
    before (suc p) b = f.before p (omega arith)

-- two lists are one, or differ first at some place
pub told_list : {X : Type 0} → ((x y : X) → (x ≡ y) ⊎ (x ≢ y)) → (xs ys : List X)
    → (xs ≡ ys) ⊎ ((t : ℕ) × FirstDiffer xs ys t)
told_list told [] [] = inl refl
told_list told [] (y ∷ ys) = inr (0, record { before = λ p b. absurd (omega arith); here = λ e. none-some y e })
told_list told (x ∷ xs) [] = inr (0, record { before = λ p b. absurd (omega arith); here = λ e. none-some x (sym e) })
told_list told (x ∷ xs) (y ∷ ys) = ⊎_elim
    (λ (same : x ≡ y). ⊎_elim
    (λ (rest : xs ≡ ys). inl (λ i. same i ∷ rest i))
    (λ (d : (t : ℕ) × FirstDiffer xs ys t). inr (suc d.0, later x y xs ys d.0 same d.1))
    (told_list told xs ys))
    (λ (other : x ≢ y). inr (0, record { before = λ p b. absurd (omega arith); here = λ e. other (same_Some x y e) }))
    (told x y)

-- the same of two lists of values
pub told_values : (xs ys : List (List ℕ)) → (xs ≡ ys) ⊎ (xs ≢ ys)
told_values xs ys = ⊎_elim
    (λ (same : xs ≡ ys). inl same)
    (λ (d : (t : ℕ) × FirstDiffer xs ys t). inr (λ e. d.1.here (ap (λ l. slice_get l d.0) e)))
    (told_list told_bytes xs ys)
