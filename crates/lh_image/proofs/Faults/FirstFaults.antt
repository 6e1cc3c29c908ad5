-- The fault that is answered is the one that is due.
use Rattle.std.proofs.Common.{◌≡◌, ◌↔◌, ℕ, ◌+◌, ◌-◌, ◌<◌, ◌≤◌, Bool, true, false, cond, List, ◌∷◌, ◌++◌, Option, Some}
use Rattle.std.proofs.Common.{None, refl, sym, ap, ◌∙◌, arith}
use Rattle.std.specs.Prelude.{option_map}
use Rattle.std.specs.List.{find, range_with_len}
use Rattle.std.proofs.lemmas.Bool.{false≢true}
use Rattle.lh_image.specs.declared.fault.ImageFault.{ImageFault}
use Rattle.lh_image.specs.declared.fault.ImageFault.TheVariants.{Magic, HeaderField, Counts, Short, Trailing, Kind}
use Rattle.lh_image.specs.declared.fault.ImageFault.TheVariants.{BucketNumber, Level, Used, Next, Twice, Never, Slot}
use Rattle.lh_image.specs.declared.fault.ImageFault.TheVariants.{Misfit, ReadFault, Memory}
use Rattle.lh_image.specs.Faults.{at_head, bad_kind, bad_bucket, bad_level, bad_used_at, bad_next, named_twice}
use Rattle.lh_image.specs.Faults.{on_no_chain, has_bad_slot, has_misfit, no_magic, has_header, bad_field, bad_counts}
use Rattle.lh_image.specs.Faults.{is_short, has_trailing, where_so, least, header_rows, size_rows, page_rows}
use Rattle.lh_image.specs.Faults.{image_fault, first_fault_of}
use Rattle.lh_image.specs.FirstFault.{Applies, FirstFaultLaw, IsLeastInRange, NoFaultLaw, number}
use Rattle.lh_image.specs.Layout.{header_of, ends_in_zeros, view_of}
use Rattle.lh_image.specs.View.{View, numbers, page_count, links}
use Rattle.lh_image.proofs.Faults.FirstAnswers.{AreAnswers, AreNumbered, Answers, first_answers, nothing}
use Rattle.lh_image.proofs.Faults.Ranges.{found_least, some_is}

-- the rows of the table by the numbers of their faults, from 0 on
abbrev answers : List ℕ → List (Option ImageFault)
answers bytes = None ∷ header_rows bytes ++ size_rows bytes ++ page_rows (view_of bytes)

-- ---- each has its number

numbered_so : (t : Bool) (g : ImageFault) (f : ImageFault) → where_so t g ≡ Some f → number f ≡ number g
numbered_so true g f e = sym (ap number (some_is g f e))
numbered_so false g f e = absurd (nothing f e)

numbered_at : (o : Option ℕ) (K : ℕ → ImageFault) (k : ℕ) → ((p : ℕ) → number (K p) ≡ k) → (f : ImageFault) →
    option_map K o ≡ Some f → number f ≡ k
numbered_at None K k is f e = absurd (nothing f e)
numbered_at (Some p) K k is f e = sym (ap number (some_is (K p) f e)) ∙ is p

numbered_if : (b : Bool) (o : Option ImageFault) (k : ℕ) → ((f : ImageFault) → o ≡ Some f → number f ≡ k) →
    (f : ImageFault) → cond b o None ≡ Some f → number f ≡ k
numbered_if true o k is f e = is f e
numbered_if false o k is f e = absurd (nothing f e)

numbered : (bytes : List ℕ) → AreNumbered 0 (answers bytes)
numbered bytes =
    let v : View = view_of bytes in (
      λ f e. absurd (nothing f e),
      (
        numbered_so (no_magic bytes) Magic,
        (
          numbered_if (has_header bytes) _ 2
              (numbered_at (bad_field (header_of bytes) (ends_in_zeros bytes)) HeaderField 2 (λ p. refl)),
          (
            numbered_if (has_header bytes) _ 3 (numbered_so (bad_counts (header_of bytes)) Counts),
            (
              numbered_so (is_short bytes) Short,
              (
                numbered_so (has_trailing bytes) Trailing,
                (
                  numbered_at (least (page_count v) (at_head bad_kind v)) Kind 6 (λ p. refl),
                  (
                    numbered_at (least (page_count v) (at_head bad_bucket v)) BucketNumber 7 (λ p. refl),
                    (
                      numbered_at (least (page_count v) (at_head bad_level v)) Level 8 (λ p. refl),
                      (
                        numbered_at (find (bad_used_at v) (range_with_len 0 (page_count v))) Used 9 (λ p. refl),
                        (
                          numbered_at (least (page_count v) (bad_next (links v))) Next 10 (λ p. refl),
                          (
                            numbered_at (least (page_count v) (named_twice (links v))) Twice 11 (λ p. refl),
                            (
                              numbered_at (least (page_count v) (on_no_chain (links v))) Never 12 (λ p. refl),
                              (
                                numbered_at (least (page_count v) (has_bad_slot v)) Slot 13 (λ p. refl),
                                (
                                  numbered_at (least (page_count v) (has_misfit v)) Misfit 14 (λ p. refl),
                                  tt,
                                ),
                              ),
                            ),
                          ),
                        ),
                      ),
                    ),
                  ),
                ),
              ),
            ),
          ),
        ),
      ),
    )

-- ---- each is given exactly where its fault applies

given_so : (t : Bool) (f : ImageFault) → (where_so t f ≡ Some f) ↔ (t ≡ true)
given_so true f = (λ e. refl, λ a. refl)
given_so false f = (λ e. absurd (nothing f e), λ a. absurd (false≢true a))

given_at : {A : Type 0} (o : Option ℕ) (K : ℕ → ImageFault) → ((p q : ℕ) → K p ≡ K q → p ≡ q) → (p : ℕ) →
    (o ≡ Some p) ↔ A → (option_map K o ≡ Some (K p)) ↔ A
given_at None K one p d = (λ e. absurd (nothing (K p) e), λ a. absurd (nothing p (d.1 a)))
given_at (Some q) K one p d =
    (λ e. d.0 (ap Some (one q p (some_is (K q) (K p) e))), λ a. ap (λ n. Some (K n)) (some_is q p (d.1 a)))

given_if : {A : Type 0} (b : Bool) (o : Option ImageFault) (f : ImageFault) → (o ≡ Some f) ↔ A →
    (cond b o None ≡ Some f) ↔ ((b ≡ true) × A)
given_if true o f d = (λ e. (refl, d.0 e), λ a. d.1 a.1)
given_if false o f d = (λ e. absurd (nothing f e), λ a. absurd (false≢true a.0))

-- the first number that passes is the least one
least_from : (test : ℕ → Bool) (a n end : ℕ) → ((p : ℕ) → a ≤ p → (p < a + n) ↔ (p < end)) → (p : ℕ) →
    (find test (range_with_len a n) ≡ Some p) ↔ IsLeastInRange test a end p
least_from test a n end same p =
    let f = found_least test a n p in (
      λ e. let r = f.0 e in record { from = r.0; below = (same p r.0).0 r.1; holds = r.2; least = r.3 },
      λ l. f.1 (l.from, (same p l.from).1 l.below, l.holds, l.least),
    )

least_at : (P : ℕ) (test : ℕ → Bool) (p : ℕ) → (least P test ≡ Some p) ↔ IsLeastInRange test 1 P p
unfolding numbers
least_at P test p = least_from test 1 (P - 1) P (λ q low. (λ l. omega arith, λ l. omega arith)) p

given : (bytes : List ℕ) → AreAnswers (Applies bytes) 0 (answers bytes)
given bytes Magic low = given_so (no_magic bytes) Magic
given bytes (HeaderField offset) low =
    let o : Option ℕ = bad_field (header_of bytes) (ends_in_zeros bytes) in
    given_if (has_header bytes) (option_map HeaderField o) (HeaderField offset)
    (given_at o HeaderField (λ p q e. cc) offset (λ e. e, λ e. e))
given bytes Counts low = given_if (has_header bytes) _ Counts (given_so (bad_counts (header_of bytes)) Counts)
given bytes Short low = given_so (is_short bytes) Short
given bytes Trailing low = given_so (has_trailing bytes) Trailing
given bytes (Kind p) low =
    given_at _ Kind (λ p q e. cc) p (least_at (page_count (view_of bytes)) (at_head bad_kind (view_of bytes)) p)
given bytes (BucketNumber p) low =
    given_at _ BucketNumber (λ p q e. cc) p
    (least_at (page_count (view_of bytes)) (at_head bad_bucket (view_of bytes)) p)
given bytes (Level p) low =
    given_at _ Level (λ p q e. cc) p (least_at (page_count (view_of bytes)) (at_head bad_level (view_of bytes)) p)
given bytes (Used p) low =
    given_at _ Used (λ p q e. cc) p
    (least_from (bad_used_at (view_of bytes)) 0 (page_count (view_of bytes)) (page_count (view_of bytes))
    (λ q low. (λ l. omega arith, λ l. omega arith)) p)
given bytes (Next p) low =
    given_at _ Next (λ p q e. cc) p (least_at (page_count (view_of bytes)) (bad_next (links (view_of bytes))) p)
given bytes (Twice p) low =
    given_at _ Twice (λ p q e. cc) p (least_at (page_count (view_of bytes)) (named_twice (links (view_of bytes))) p)
given bytes (Never p) low =
    given_at _ Never (λ p q e. cc) p (least_at (page_count (view_of bytes)) (on_no_chain (links (view_of bytes))) p)
given bytes (Slot p) low =
    given_at _ Slot (λ p q e. cc) p (least_at (page_count (view_of bytes)) (has_bad_slot (view_of bytes)) p)
given bytes (Misfit p) low =
    given_at _ Misfit (λ p q e. cc) p (least_at (page_count (view_of bytes)) (has_misfit (view_of bytes)) p)
given bytes ReadFault low = (λ e. nothing ReadFault e, λ a. absurd a)
given bytes Memory low = (λ e. nothing Memory e, λ a. absurd a)

answered : (bytes : List ℕ) → Answers (Applies bytes) 0 (image_fault bytes)
unfolding image_fault first_fault_of
answered bytes = first_answers (Applies bytes) 0 (answers bytes) (numbered bytes) (given bytes)

-- a fault is answered exactly where it is the first
pub first_fault_law : FirstFaultLaw
first_fault_law bytes f =
    let a = (answered bytes).some f in (
      λ e. let r = a.0 e in record { applies = r.0; first = λ g lt. r.2 g (omega arith) lt },
      λ d. a.1 (d.applies, omega arith, λ g low lt. d.first g lt),
    )

-- no fault is answered exactly where no condition holds
pub no_fault_law : NoFaultLaw
no_fault_law bytes =
    let a = (answered bytes).none in
    (λ e f. a.0 e f (omega arith), λ h. a.1 (λ f low. h f))
