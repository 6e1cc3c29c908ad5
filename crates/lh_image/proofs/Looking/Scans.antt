-- The slots of a page, one after the other
use Rattle.std.proofs.Common.{◌≡◌, ℕ, ◌+◌, ◌<◌, ◌≤◌, Bool, true, false, cond, not, ◌||◌, List, [], ◌∷◌, ◌++◌, Option}
use Rattle.std.proofs.Common.{Some, None, refl, sym, ap, subst, ◌∙◌, inl, inr, arith, zero-add}
use Rattle.std.specs.List.{list_any}
use Rattle.std.specs.Option.{option_or}
use Rattle.std.specs.Str.{bytes_eq}
use Rattle.std.proofs.lemmas.Bool.{cases_lt}
use Rattle.std.proofs.lemmas.List.Folds.{list_any-append}
use Rattle.std.proofs.lemmas.List.FromFn.{map-range_with_len_more}
use Rattle.lh_page.specs.declared.format.Format.{Format}
use Rattle.lh_page.specs.declared.pair.Pair.{Pair}
use Rattle.lh_page.specs.PageFields.{is_bad_record, pair_of, pairs_of, used_of, value_length}
use Rattle.lh_page.specs.PageTable.{slot}
use Rattle.lh_image.specs.LookUp.{IsScannedTo, IsSlotOf, first_pairs, met_first, value_in}
use Rattle.lh_image.proofs.Looking.Values.{value_in-append, value_in-cons, value_in-none}

-- the records of the first slots, after one slot more
pub first_pairs-more : (f : Format) (bytes : List ℕ) (n : ℕ) →
    first_pairs f bytes (n + 1) ≡ first_pairs f bytes n ++ pair_of f (slot f bytes n) ∷ []
first_pairs-more f bytes n = map-range_with_len_more (λ i. pair_of f (slot f bytes i)) 0 n n (zero-add n)

-- the records of all used slots are those of the page
pub first_pairs-all : (f : Format) (bytes : List ℕ) (n : ℕ) → n ≡ used_of bytes →
    first_pairs f bytes n ≡ pairs_of f bytes
unfolding pairs_of
first_pairs-all f bytes n e = ap (first_pairs f bytes) e

-- one record more
pub value_more : (key : List ℕ) (xs : List Pair) (x : Pair) (sought : Bool) → sought ≡ bytes_eq x.key key →
    value_in key (xs ++ x ∷ []) ≡ option_or (value_in key xs) (cond sought (Some x.value) None)
value_more key xs x sought is =
    value_in-append key xs (x ∷ [])
    ∙ ap (option_or (value_in key xs))
    (value_in-cons key x [] ∙ ap (λ b. cond b (Some x.value) (value_in key [])) (sym is)
    ∙ ap (cond sought (Some x.value)) (value_in-none key))

slot_more : (f : Format) (bytes key : List ℕ) (xs : List Pair) (n : ℕ) (found : Option ℕ) (sought : Bool) →
    n < f.slots → value_length (slot f bytes n) ≤ f.value → sought ≡ bytes_eq (pair_of f (slot f bytes n)).key key →
    IsSlotOf f bytes key xs found →
    IsSlotOf f bytes key (xs ++ pair_of f (slot f bytes n) ∷ []) (met_first found n sought)
slot_more f bytes key xs n (Some k) sought low short is h = (
  h.0,
  h.1,
  value_more key xs (pair_of f (slot f bytes n)) sought is
      ∙ ap (λ o. option_or o (cond sought (Some (pair_of f (slot f bytes n)).value) None)) h.2,
)
slot_more f bytes key xs n None true low short is h = (
  low,
  short,
  value_more key xs (pair_of f (slot f bytes n)) true is
      ∙ ap (λ o. option_or o (Some (pair_of f (slot f bytes n)).value)) h,
)
slot_more f bytes key xs n None false low short is h =
    value_more key xs (pair_of f (slot f bytes n)) false is ∙ ap (λ o. option_or o None) h

-- before any slot was looked at, no key was found and no record is away from its bucket
pub scanned_none : (f : Format) (bytes key : List ℕ) (home : List ℕ → Bool) → IsScannedTo f bytes key home 0 None false
scanned_none f bytes key home =
    record { good = λ i low. absurd (omega arith); strangers = refl; place = value_in-none key }

or_false : (b : Bool) → (b || false) ≡ b
or_false true = refl
or_false false = refl

-- what was looked at in the first slots, after one slot more that has no bad record
pub scanned_more : (f : Format) (bytes key s own : List ℕ) (home : List ℕ → Bool) (n : ℕ) (found : Option ℕ)
    (strange away sought : Bool) → n < f.slots → s ≡ slot f bytes n → is_bad_record f s ≡ false →
    value_length s ≤ f.value →
    own ≡ (pair_of f s).key → sought ≡ bytes_eq own key → away ≡ not (home own) →
    IsScannedTo f bytes key home n found strange →
    IsScannedTo f bytes key home (n + 1) (met_first found n sought) (strange || away)
scanned_more f bytes key s own home n found strange away sought low is good short own_is sought_is away_is h =
    let x : Pair = pair_of f (slot f bytes n) in
    let key_is : own ≡ x.key = own_is ∙ ap (λ t. (pair_of f t).key) is in
    let more = first_pairs-more f bytes n in
    record {
      good = λ i below. elim (cases_lt i n) [
        | inl before ↦ h.good i before
        | inr there ↦ let same : i ≡ n = omega arith in rw same (ap (is_bad_record f) (sym is) ∙ good)
      ];
      strangers =
          ap (λ b. b || away) h.strangers
          ∙ ap (λ b. list_any (λ (r : Pair). not (home r.key)) (first_pairs f bytes n) || b)
          (away_is ∙ ap (λ k. not (home k)) key_is ∙ sym (or_false (not (home x.key))))
          ∙ sym (list_any-append (λ (r : Pair). not (home r.key)) (first_pairs f bytes n) (x ∷ []))
          ∙ ap (list_any (λ (r : Pair). not (home r.key))) (sym more);
      place = subst (λ xs. IsSlotOf f bytes key xs (met_first found n sought)) (sym more)
          (slot_more f bytes key (first_pairs f bytes n) n found sought low
          (subst (λ t. value_length t ≤ f.value) is short) (sought_is ∙ ap (λ k. bytes_eq k key) key_is) h.place);
    }
