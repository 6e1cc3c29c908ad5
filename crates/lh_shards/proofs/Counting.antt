-- Terms that files have answered to their hands, one shard after another
use Rattle.std.proofs.Common.{zero, suc, ◌≡◌, ℕ, ◌+◌, ◌<◌, ◌≤◌, Bool, List, [], ◌∷◌, ◌++◌, length, set, Some, refl}
use Rattle.std.proofs.Common.{sym, ap, ◌∙◌, subst, ⊎_elim, arith}
use Rattle.std.specs.List.{slice_get}
use Rattle.std.specs.Prelude.{sum_by}
use Rattle.std.proofs.lemmas.List.{length_push}
use Rattle.std.proofs.lemmas.List.Sums.{sum_by_push}
use Rattle.std.proofs.lemmas.Option.{same_Some, slice_get_within}
use Rattle.lh_file.specs.FileState.{FileState}
use Rattle.lh_file.specs.History.Telling.{HasTold}
use Rattle.lh_file.specs.Words.Calls.{IsBuckets}
use Rattle.lh_file.specs.Words.HandState.{HandState}
use Rattle.lh_shards.specs.Counts.{AreAnswered, capped}
use Rattle.lh_shards.specs.Hands.{AreOf, IsOfShard}
use Rattle.lh_shards.proofs.Passing.{HandFact, Passed, passed_next, passed_as}
use Rattle.lh_shards.proofs.Places.{there, at_push}

-- the file of a place has answered the term there
abbrev pub HasAnswered : {X : Type 0} → (FileState → HandState → X → HandState → Type 0) → List FileState → List X →
    HandFact
HasAnswered {X} Answers files terms k old new =
    (f : FileState) (t : X) → slice_get files k ≡ Some f → slice_get terms k ≡ Some t → Answers f old t new

-- the files before a place have answered
pub record SoFar {X : Type 0} (Answers : FileState → HandState → X → HandState → Type 0) (files : List FileState)
    (olds : List HandState) (i : ℕ) (terms : List X) (items : List HandState) : Type 0 where
  pub many : length terms ≡ i
  pub passed : Passed (HasAnswered Answers files terms) i olds items

-- when the file of a place has answered, the files before the next place have
pub so_far_next : {X : Type 0} (Answers : FileState → HandState → X → HandState → Type 0) (files : List FileState)
    (olds : List HandState) (i : ℕ) (terms : List X) (items : List HandState) (f : FileState) (b : HandState)
    (t : X) (a : HandState) → slice_get files i ≡ Some f → slice_get olds i ≡ Some b → Answers f b t a →
    SoFar Answers files olds i terms items → SoFar Answers files olds (i + 1) (terms ++ t ∷ []) (set items i a)
so_far_next Answers files olds i terms items f b t a at_f at_b new was =
    let many : length terms ≡ i = was.many in record {
      many = length_push terms t ∙ ap (λ n. n + 1) many;
      passed = passed_next (HasAnswered Answers files (terms ++ t ∷ [])) i olds items b a at_b
          (λ g u fg tu.
          ⊎_elim
          (λ e.
          subst (λ x. Answers x b u a) (same_Some f g (sym at_f ∙ fg)) (subst (λ y. Answers f b y a) (sym e.1) new))
          (λ e. let lt : i < length terms = slice_get_within terms i u e in absurd (omega arith))
          (at_push terms t i u tu))
          (passed_as (HasAnswered Answers files terms) (HasAnswered Answers files (terms ++ t ∷ [])) i olds items
          (λ k old h lt said g u fg tu.
          ⊎_elim
          (λ e. let at : k ≡ length terms = e.0 in absurd (omega arith))
          (λ e. said g u fg e)
          (at_push terms t k u tu))
          was.passed);
    }

-- when the files before the end have answered, all have
pub all_answered : {X : Type 0} (Answers : FileState → HandState → X → HandState → Type 0) (files : List FileState)
    (olds : List HandState) (i : ℕ) (terms : List X) (items : List HandState) → i ≡ length files →
    SoFar Answers files olds i terms items → AreAnswered Answers files olds terms items
all_answered Answers files olds i terms items all was = record {
  terms_count = was.many ∙ all;
  hands_count = was.passed.count;
  each =
      λ k f b t a kf kb kt ka.
      was.passed.done k b a (subst (λ n. suc k ≤ n) (sym all) (slice_get_within files k f kf)) kb ka f t kf kt;
}

has_counted : (n i : ℕ) (f : FileState) (old : HandState) (term : ℕ) (new : HandState) → IsOfShard n i f old →
    IsBuckets f old term new → IsOfShard n i f new
has_counted n i f old term new o b = subst (λ x. IsOfShard n i f x) (sym b.knows) (record {
  of = record { table = o.of.table; initial = o.of.initial; max = o.of.max; recording = o.of.recording };
  right = o.right;
  home = o.home;
})

has_heard : (traced : Bool) (n i : ℕ) (f : FileState) (old : HandState) (term : ℕ) (new : HandState) →
    IsOfShard n i f old → HasTold traced f old term new → IsOfShard n i f new
has_heard traced n i f old term new o t = subst (λ x. IsOfShard n i f x) (sym t.after_is) (record {
  of = record { table = o.of.table; initial = o.of.initial; max = o.of.max; recording = o.of.recording };
  right = o.right;
  home = o.home;
})

-- hands of which each stays one of its file by what that answers are hands of their files still
answered_are_of : (Answers : FileState → HandState → ℕ → HandState → Type 0) →
    ((n i : ℕ) (f : FileState) (old : HandState) (term : ℕ) (new : HandState) → IsOfShard n i f old →
    Answers f old term new → IsOfShard n i f new) →
    (files : List FileState) (olds news : List HandState) (terms : List ℕ) → AreOf files olds →
    AreAnswered Answers files olds terms news → AreOf files news
answered_are_of Answers stays files olds news terms o b = record {
  count = b.hands_count ∙ o.count;
  each = λ i f h fi hi.
      let in_olds : i < length olds = subst (λ n. i < n) b.hands_count (slice_get_within news i h hi) in
      let in_terms : i < length terms = subst (λ n. i < n) (sym b.terms_count) (slice_get_within files i f fi) in
      let was : (x : HandState) × (slice_get olds i ≡ Some x) = there olds i in_olds in
      let term : (t : ℕ) × (slice_get terms i ≡ Some t) = there terms i in_terms in
      stays (length files) i f was.0 term.0 h (o.each i f was.0 fi was.1)
      (b.each i f was.0 term.0 h fi was.1 term.1 hi);
}

-- such are hands that were answered the number of buckets,
pub counted_are_of : (files : List FileState) (olds news : List HandState) (terms : List ℕ) → AreOf files olds →
    AreAnswered IsBuckets files olds terms news → AreOf files news
counted_are_of = answered_are_of IsBuckets has_counted

-- and those that were told of acts
pub told_are_of : (traced : Bool) (files : List FileState) (olds news : List HandState) (terms : List ℕ) →
    AreOf files olds → AreAnswered (HasTold traced) files olds terms news → AreOf files news
told_are_of traced = answered_are_of (HasTold traced) (has_heard traced)

-- what is capped may be capped before a number is added
capped_twice : (m n : ℕ) → capped (capped m + n) ≡ capped (m + n)
capped_twice m n = omega arith

-- a number of one term more is added to a capped sum
pub one_more : {X : Type 0} (f : X → ℕ) (terms : List X) (term : X) (total new : ℕ) → total ≡ capped (sum_by f terms) →
    new ≡ capped (total + f term) → new ≡ capped (sum_by f (terms ++ term ∷ []))
one_more f terms term total new was is =
    is ∙ ap (λ n. capped (n + f term)) was ∙ capped_twice (sum_by f terms) (f term)
    ∙ ap capped (sym (sum_by_push f terms term))

-- what stands at a place is written there again
pub set_self : {X : Type 0} (xs : List X) (i : ℕ) (x : X) → slice_get xs i ≡ Some x → set xs i x ≡ xs
set_self [] i x e = refl
set_self (y ∷ ys) zero x e = ap (λ z. z ∷ ys) (sym (same_Some y x e))
set_self (y ∷ ys) (suc i) x e = ap (λ zs. y ∷ zs) (set_self ys i x e)
