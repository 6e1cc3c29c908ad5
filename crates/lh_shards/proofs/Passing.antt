-- Hands that a loop goes over, one shard after another
use Rattle.std.proofs.Common.{suc, ◌≡◌, ◌≢◌, ℕ, ◌+◌, ◌≤◌, List, length, set, Some, sym, ◌∙◌, subst, ⊎_elim, arith}
use lib.ListN.{length-set}
use Rattle.std.specs.List.{slice_get}
use Rattle.std.proofs.lemmas.Option.{same_Some}
use Rattle.lh_file.specs.Words.HandState.{HandState}
use Rattle.lh_shards.proofs.Places.{set_tells, set_other}

-- a fact about a place, and the hand there before and after
abbrev pub HandFact : Type 1
HandFact = ℕ → HandState → HandState → Type 0

-- the fact holds of the hands before a place, and the others are as they were
pub record Passed (Fact : HandFact) (i : ℕ) (olds items : List HandState) : Type 0 where
  pub count : length items ≡ length olds
  pub done : (k : ℕ) (old new : HandState) → suc k ≤ i → slice_get olds k ≡ Some old → slice_get items k ≡ Some new →
      Fact k old new
  pub rest : (k : ℕ) → i ≤ k → slice_get items k ≡ slice_get olds k

-- when the fact holds of the hand of a place, the hands before the next place have passed
pub passed_next : (Fact : HandFact) (i : ℕ) (olds items : List HandState) (b a : HandState) →
    slice_get olds i ≡ Some b → Fact i b a → Passed Fact i olds items → Passed Fact (i + 1) olds (set items i a)
passed_next Fact i olds items b a at new was = record {
  count = length-set items i a ∙ was.count;
  done = λ k old h lt ko kh.
      ⊎_elim
      (λ e. let same : b ≡ old = same_Some b old (sym at ∙ subst (λ j. slice_get olds j ≡ Some old) e.0 ko) in
      subst (λ j. Fact j old h) (sym e.0) (subst (λ x. Fact i x h) same (subst (λ y. Fact i b y) (sym e.1) new)))
      (λ e. let ne : k ≢ i = e.0 in was.done k old h (omega arith) ko e.1)
      (set_tells items i a k h kh);
  rest = λ k le. set_other items i a k (λ e. omega (arith, e)) ∙ was.rest k (omega arith);
}

-- hands before the place have passed by another fact that follows there
pub passed_as : (Fact Other : HandFact) (i : ℕ) (olds items : List HandState) →
    ((k : ℕ) (old new : HandState) → suc k ≤ i → Fact k old new → Other k old new) → Passed Fact i olds items →
    Passed Other i olds items
passed_as Fact Other i olds items follows was = record {
  count = was.count;
  done = λ k old new lt ko kn. follows k old new lt (was.done k old new lt ko kn);
  rest = was.rest;
}
