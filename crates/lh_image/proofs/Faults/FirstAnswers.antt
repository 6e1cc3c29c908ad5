-- The first of some answers, which stand in the order of the numbers of their faults
use Rattle.std.proofs.Common.{◌≡◌, inl, inr, ◌↔◌, ℕ, suc, ◌-◌, ◌<◌, ◌≤◌, List, [], ◌∷◌, ◌++◌, get_or, Option, Some}
use Rattle.std.proofs.Common.{None, refl, sym, ap, subst, ◌∙◌, arith}
use Rattle.std.proofs.lemmas.Bool.{cases_eq}
use Rattle.lh_image.specs.declared.fault.ImageFault.{ImageFault}
use Rattle.lh_image.specs.Faults.{first_fault_of}
use Rattle.lh_image.specs.FirstFault.{number}
use Rattle.lh_image.proofs.Faults.Ranges.{some_is}

-- each answer, from number k on, is a fault of its number
abbrev pub AreNumbered : ℕ → List (Option ImageFault) → Type 0
AreNumbered k [] = Unit {0}
AreNumbered k (o ∷ os) = ((f : ImageFault) → o ≡ Some f → number f ≡ k) × AreNumbered (suc k) os

-- the answer at the number of a fault is that fault exactly where it applies
abbrev pub AreAnswers : (ImageFault → Type 0) → ℕ → List (Option ImageFault) → Type 0
AreAnswers A k os = (f : ImageFault) → k ≤ number f → (get_or os (number f - k) None ≡ Some f) ↔ A f

-- what is answered, from number k on
pub record Answers (A : ImageFault → Type 0) (k : ℕ) (o : Option ImageFault) : Type 0 where
  pub some : (f : ImageFault) →
      (o ≡ Some f) ↔ (A f × (k ≤ number f) × ((g : ImageFault) → k ≤ number g → number g < number f → A g → ⊥))
  pub none : (o ≡ None) ↔ ((f : ImageFault) → k ≤ number f → A f → ⊥)

answers_later : (A : ImageFault → Type 0) (k : ℕ) (o : Option ImageFault) (os : List (Option ImageFault)) →
    AreAnswers A k (o ∷ os) → AreAnswers A (suc k) os
answers_later A k o os all f low =
    let e : number f - k ≡ suc (number f - suc k) = omega arith in
    subst (λ n. (get_or (o ∷ os) n None ≡ Some f) ↔ A f) e (all f (omega arith))

answer_here : (A : ImageFault → Type 0) (k : ℕ) (o : Option ImageFault) (os : List (Option ImageFault)) →
    AreAnswers A k (o ∷ os) → (f : ImageFault) → number f ≡ k → (o ≡ Some f) ↔ A f
answer_here A k o os all f same =
    let e : number f - k ≡ 0 = omega arith in
    subst (λ n. (get_or (o ∷ os) n None ≡ Some f) ↔ A f) e (all f (omega arith))

-- it can't be that no answer is given and that one is
pub nothing : {A : Type 0} (x : A) → None ≡ Some x → ⊥
nothing x e = cc

-- the first of numbered answers is the fault of the least number among those that apply, or none if none does
pub first_answers : (A : ImageFault → Type 0) (k : ℕ) (os : List (Option ImageFault)) → AreNumbered k os →
    AreAnswers A k os → Answers A k (first_fault_of os)
unfolding first_fault_of
first_answers A k [] numbered all = record {
  some = λ f. (λ e. absurd (nothing f e), λ h. absurd (nothing f ((all f h.1).1 h.0)));
  none = (λ e f low a. nothing f ((all f low).1 a), λ h. refl);
}
first_answers A k (None ∷ os) numbered all =
    let rest = first_answers A (suc k) os numbered.1 (answers_later A k None os all) in
    let not_here : (g : ImageFault) → number g ≡ k → A g → ⊥ =
    λ g same a. nothing g ((answer_here A k None os all g same).1 a) in
    let above : (g : ImageFault) → k ≤ number g → A g → suc k ≤ number g =
    λ g low a. elim (cases_eq (number g) k) [ inl same ↦ absurd (not_here g same a) | inr other ↦ omega arith ] in
    record {
      some = λ f. (
        λ e. let r = (rest.some f).0 e in (r.0, omega (arith, r.1), λ g low lt a. r.2 g (above g low a) lt a),
        λ h. (rest.some f).1 (h.0, above f h.1 h.0, λ g low lt. h.2 g (omega arith) lt),
      );
      none = (λ e f low a. rest.none.0 e f (above f low a) a, λ h. rest.none.1 (λ f low. h f (omega arith)));
    }
first_answers A k (Some g ∷ os) numbered all =
    let at : number g ≡ k = numbered.0 g refl in
    let applies : A g = (answer_here A k (Some g) os all g at).0 refl in
    record {
      some = λ f. (
        λ e.
            let same : g ≡ f = some_is g f e in
            let m : number f ≡ k = sym (ap number same) ∙ at in
            (rw (← same) applies, omega arith, λ h low lt. absurd (omega arith)),
        λ h. elim (cases_eq (number f) k) [
          | inl same ↦ (answer_here A k (Some g) os all f same).1 h.0
          | inr other ↦ absurd (h.2 g (omega arith) (omega (arith, h.1)) applies)
        ],
      );
      none = (λ e. absurd (nothing g (sym e)), λ h. absurd (h g (omega arith) applies));
    }

-- no answer is given
abbrev pub AreNone : List (Option ImageFault) → Type 0
AreNone [] = Unit {0}
AreNone (o ∷ os) = (o ≡ None) × AreNone os

-- the first of some answers is none exactly where no answer is given
pub none_first : (os : List (Option ImageFault)) → (first_fault_of os ≡ None) ↔ AreNone os
unfolding first_fault_of
none_first [] = (λ e. tt, λ h. refl)
none_first (None ∷ os) = let rest = none_first os in (λ e. (refl, rest.0 e), λ h. rest.1 h.1)
none_first (Some f ∷ os) = (λ e. absurd (nothing f (sym e)), λ h. absurd (nothing f (sym h.0)))

-- rows without an answer come before others
pub first_behind : (os ps : List (Option ImageFault)) → first_fault_of os ≡ None →
    first_fault_of (os ++ ps) ≡ first_fault_of ps
unfolding first_fault_of
first_behind [] ps e = refl
first_behind (None ∷ os) ps e = first_behind os ps e
first_behind (Some f ∷ os) ps e = absurd (nothing f (sym e))

-- rows with an answer come before others
pub first_before : (os ps : List (Option ImageFault)) (f : ImageFault) → first_fault_of os ≡ Some f →
    first_fault_of (os ++ ps) ≡ Some f
unfolding first_fault_of
first_before [] ps f e = absurd (nothing f e)
first_before (None ∷ os) ps f e = first_before os ps f e
first_before (Some g ∷ os) ps f e = e
