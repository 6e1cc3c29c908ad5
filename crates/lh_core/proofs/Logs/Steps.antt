-- Steps that were accepted, and the workers that they leave alone
use Rattle.std.proofs.Common.{◌≡◌, ℕ, ◌<◌, ◌≢◌, true, false, cond, List, Some}
use Rattle.std.proofs.Common.{length, set, nat_eq, sym, ap, subst, ◌∙◌, arith, eq-eqb, refl}
use Rattle.std.specs.Prelude.{slice_get}
use Rattle.std.specs.List.{All}
use Rattle.std.proofs.lemmas.Option.{slice_get-get_or, slice_get_within, get_or_from_slice_get}
use Rattle.std.proofs.lemmas.List.{length-set, get_or-set_same, get_or-set_other}
use Rattle.std.proofs.lemmas.Bool.Decides.{nat_tests}
use Rattle.lh_core.specs.declared.effect.Effect.{Effect}
use Rattle.lh_core.specs.declared.effect.Effect.TheVariants as effect
use Rattle.lh_core.specs.declared.event.Event.{Event}
use Rattle.lh_core.specs.declared.event.Event.TheVariants as event
use Rattle.lh_core.specs.History.{outline}
use Rattle.lh_core.specs.StepLaws.{some_same}

-- an effect that isn't a reply is the one told
pub outlined : (f g : Effect) → Some g ≡ outline f → f ≡ g
outlined effect.Called g e = cc
outlined (effect.Aim k m) g e = cc
outlined (effect.Locked k m) g e = cc
outlined (effect.Answered r) g e = cc
outlined effect.Released g e = cc
outlined effect.GivenUp g e = cc
outlined (effect.Begun k m) g e = cc
outlined (effect.Both k m) g e = cc
outlined (effect.Moved k m) g e = cc
outlined effect.Freed g e = cc
outlined (effect.Point k) g e = cc
outlined effect.Dropped g e = cc

-- an event that isn't of a worker
abbrev pub IsOther : ℕ → Event → Type 0
IsOther w (event.Call v c) = v ≢ w
IsOther w (event.Read v) = v ≢ w
IsOther w (event.Lock v) = v ≢ w
IsOther w (event.Rehash v) = v ≢ w
IsOther w (event.Act v) = v ≢ w
IsOther w (event.Release v) = v ≢ w
IsOther w _ = Unit {0}

-- the test whether two workers are the same fails where they differ
pub other_eq : (v w : ℕ) → v ≢ w → nat_eq v w ≡ false
other_eq v w d = grind (arith, nat_tests)

-- two workers that the test calls the same are the same
pub same_eq : (v w : ℕ) → nat_eq v w ≡ true → v ≡ w
same_eq v w e = grind (arith, nat_tests)

-- a choice by that test is the second value where the workers differ
pub other_cond : {X : Type 0} (v w : ℕ) (x y : X) → v ≢ w → cond (nat_eq v w) x y ≡ y
other_cond v w x y d = ap (λ b. cond b x y) (other_eq v w d)

-- it is the first value where they are the same
pub same_cond : {X : Type 0} (v : ℕ) (x y : X) → cond (nat_eq v v) x y ≡ x
same_cond v x y = ap (λ b. cond b x y) (eq-eqb v v refl)

-- what holds of all items of a list holds of the one at a place
pub all_at : {X : Type 0} (P : X → Type 0) (xs : List X) (i : ℕ) (x : X) → All P xs → slice_get xs i ≡ Some x → P x
all_at P xs i x h e = subst P (get_or_from_slice_get xs i x x e) (h i x (slice_get_within xs i x e))

-- a worker that was written, and the others
pub written : {X : Type 0} (xs : List X) (w : ℕ) (y x : X) → w < length xs → slice_get (set xs w y) w ≡ Some x → y ≡ x
written xs w y x lt e =
    some_same
    (sym
    (slice_get-get_or (set xs w y) w y (subst (λ n. w < n) (sym (length-set xs w y)) lt)
    ∙ ap Some (get_or-set_same xs w y y lt)) ∙ e)

-- what any other worker does after the write, it did before
pub unwritten : {X : Type 0} (xs : List X) (w v : ℕ) (y x : X) → v ≢ w → slice_get (set xs w y) v ≡ Some x →
    slice_get xs v ≡ Some x
unwritten xs w v y x d e =
    let lt : v < length xs = subst (λ n. v < n) (length-set xs w y) (slice_get_within (set xs w y) v x e) in
    slice_get-get_or xs v x lt
    ∙ ap Some (sym (get_or-set_other xs w v y x d) ∙ get_or_from_slice_get (set xs w y) v x x e)
