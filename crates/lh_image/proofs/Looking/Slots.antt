-- Which slots of a page are bad
use Rattle.std.proofs.Common.{◌≡◌, ℕ, zero, suc, ◌+◌, ◌-◌, ◌*◌, ◌<◌, ◌≤◌, Bool, true, false, not, List, [], ◌∷◌, length}
use Rattle.std.proofs.Common.{take, drop, Option, Some, None, refl, sym, ap, subst, ◌∙◌, inl, inr, arith}
use Rattle.std.proofs.Common.{take-append-drop}
use Rattle.std.specs.List.{find, range_with_len}
use Rattle.std.specs.Option.{is_some}
use Rattle.std.specs.Prelude.{◌==◌}
use Rattle.std.proofs.lemmas.Bool.{or_parts, ltb-false, and_parts, and_from, cases_lt, lt-ltb, le-ltb, not-false}
use Rattle.std.proofs.lemmas.Bool.{not_from_true, false≢true}
use Rattle.std.proofs.lemmas.List.{length-drop, drop-drop, take_all}
use Rattle.std.proofs.lemmas.List.Folds.{list_all-append}
use Rattle.lh_page.specs.declared.format.Format.{Format}
use Rattle.lh_page.specs.Format.{slot_size, slot_start, page_size}
use Rattle.lh_page.specs.PageFields.{all_zero, key_length, value_length, used_of, is_bad_record, is_bad_slot, bad_slot}
use Rattle.lh_page.specs.PageTable.{slot}
use Rattle.lh_image.specs.declared.fault.ImageFault.{ImageFault}
use Rattle.lh_image.specs.Faults.{first_fault_of, where_so}
use Rattle.lh_image.proofs.Faults.Ranges.{find_none, none_found}

-- ---- zeros

-- bytes that are all zeros are zeros in their front and in their rest
pub zero_parts : (n : ℕ) (xs : List ℕ) → all_zero xs ≡ true →
    (all_zero (take n xs) ≡ true) × (all_zero (drop n xs) ≡ true)
zero_parts n xs h =
    and_parts (all_zero (take n xs)) (all_zero (drop n xs))
    (sym (list_all-append (λ b. b == 0) (take n xs) (drop n xs)) ∙ (ap all_zero (take-append-drop n xs) ∙ h))

-- bytes whose front and rest are all zeros are all zeros
pub zero_join : (n : ℕ) (xs : List ℕ) → all_zero (take n xs) ≡ true → all_zero (drop n xs) ≡ true → all_zero xs ≡ true
zero_join n xs a b =
    sym (ap all_zero (take-append-drop n xs)) ∙ list_all-append (λ b. b == 0) (take n xs) (drop n xs)
    ∙ and_from (all_zero (take n xs)) (all_zero (drop n xs)) a b

-- what stands behind a slot
behind_slot : (f : Format) (bytes : List ℕ) (i : ℕ) →
    drop (slot_size f) (drop (slot_start f i) bytes) ≡ drop (slot_start f (suc i)) bytes
behind_slot f bytes i =
    let e : slot_start f i + slot_size f ≡ slot_start f (suc i) = omega arith in
    drop-drop (slot_size f) (slot_start f i) bytes ∙ ap (λ n. drop n bytes) e

-- slots of zeros up to the end of the page are a rest of zeros
pub rest_from_slots : (f : Format) (bytes : List ℕ) (k i : ℕ) → length bytes ≡ page_size f → i + k ≡ f.slots →
    ((j : ℕ) → i ≤ j → j < f.slots → all_zero (slot f bytes j) ≡ true) → all_zero (drop (slot_start f i) bytes) ≡ true
rest_from_slots f bytes zero i whole all each =
    let at : i ≡ f.slots = omega arith in
    let past : length (drop (slot_start f i) bytes) ≡ 0 =
    rw at (omega (arith, length-drop (slot_start f f.slots) bytes)) in
    none (drop (slot_start f i) bytes) past
  where
    none : (xs : List ℕ) → length xs ≡ 0 → all_zero xs ≡ true
    none [] e = refl
    none (x ∷ xs) e = absurd (omega arith)
rest_from_slots f bytes (suc k) i whole all each =
    zero_join (slot_size f) (drop (slot_start f i) bytes) (each i (omega arith) (omega arith))
    (ap all_zero (behind_slot f bytes i)
    ∙ rest_from_slots f bytes k (suc i) whole (omega arith) (λ j low. each j (omega arith)))

-- and the other way round
pub slots_from_rest : (f : Format) (bytes : List ℕ) (i j : ℕ) → all_zero (drop (slot_start f i) bytes) ≡ true → i ≤ j →
    all_zero (slot f bytes j) ≡ true
slots_from_rest f bytes i j clear low =
    let more = (j - i) * slot_size f in
    let at : slot_start f i + more ≡ slot_start f j = gap (slot_size f) in
    let far : all_zero (drop more (drop (slot_start f i) bytes)) ≡ true =
    (zero_parts more (drop (slot_start f i) bytes) clear).1 in
    let here : all_zero (drop (slot_start f j) bytes) ≡ true =
    ap (λ n. all_zero (drop n bytes)) (sym at) ∙ ap all_zero (sym (drop-drop more (slot_start f i) bytes)) ∙ far in
    (zero_parts (slot_size f) (drop (slot_start f j) bytes) here).0
  where
    gap : (w : ℕ) → 16 + i * w + (j - i) * w ≡ 16 + j * w
    gap w =
        let e : j ≡ i + (j - i) = omega arith in
        subst (λ n. 16 + i * w + (j - i) * w ≡ 16 + n * w) (sym e) (omega arith)

-- ---- bad slots

-- a used slot is bad exactly where its record is
pub bad_used_slot : (f : Format) (bytes : List ℕ) (i : ℕ) → i < used_of bytes →
    is_bad_slot f bytes i ≡ is_bad_record f (slot f bytes i)
unfolding is_bad_slot
bad_used_slot f bytes i used = rw (lt-ltb i (used_of bytes) used) refl

-- an unused slot is bad exactly where it isn't all zeros
pub bad_unused_slot : (f : Format) (bytes : List ℕ) (i : ℕ) → used_of bytes ≤ i →
    is_bad_slot f bytes i ≡ not (all_zero (slot f bytes i))
unfolding is_bad_slot
bad_unused_slot f bytes i unused = rw (le-ltb i (used_of bytes) unused) refl

some_by : (o : Option ℕ) → (o ≡ None → ⊥) → is_some o ≡ true
some_by None n = absurd (n refl)
some_by (Some x) n = refl

-- one bad slot is enough
pub bad_slot_there : (f : Format) (bytes : List ℕ) (i : ℕ) → i < f.slots → is_bad_slot f bytes i ≡ true →
    is_some (bad_slot f bytes) ≡ true
unfolding bad_slot
bad_slot_there f bytes i low bad =
    some_by (find (is_bad_slot f bytes) (range_with_len 0 f.slots))
    (λ e. false≢true (sym (find_none (is_bad_slot f bytes) 0 f.slots e i (omega arith) (omega arith)) ∙ bad))

-- where no slot is bad, none is found in the page
pub bad_slot_none : (f : Format) (bytes : List ℕ) → ((i : ℕ) → i < f.slots → is_bad_slot f bytes i ≡ false) →
    bad_slot f bytes ≡ None
unfolding bad_slot
bad_slot_none f bytes each = none_found (is_bad_slot f bytes) 0 f.slots (λ i low high. each i (omega arith))

-- good slots up to those that aren't used, and a rest of zeros
pub all_good : (f : Format) (bytes : List ℕ) (n : ℕ) → n ≡ used_of bytes →
    ((i : ℕ) → i < n → is_bad_record f (slot f bytes i) ≡ false) → all_zero (drop (slot_start f n) bytes) ≡ true →
    bad_slot f bytes ≡ None
all_good f bytes n used good clear = bad_slot_none f bytes (λ i low. elim (cases_lt i n) [
  | inl before ↦ bad_used_slot f bytes i (omega arith) ∙ good i before
  | inr behind ↦ bad_unused_slot f bytes i (omega arith) ∙ not_from_true _ (slots_from_rest f bytes n i clear behind)
])

-- a rest that isn't all zeros has a bad slot
pub rest_bad : (f : Format) (bytes : List ℕ) (n : ℕ) → length bytes ≡ page_size f → n ≤ f.slots → n ≡ used_of bytes →
    all_zero (drop (slot_start f n) bytes) ≡ false → is_some (bad_slot f bytes) ≡ true
unfolding bad_slot
rest_bad f bytes n whole few used filled =
    some_by (find (is_bad_slot f bytes) (range_with_len 0 f.slots)) (λ e.
    let clear : all_zero (drop (slot_start f n) bytes) ≡ true =
    rest_from_slots f bytes (f.slots - n) n whole (omega arith) (λ j low high.
    not-false _
    (sym (bad_unused_slot f bytes j (omega arith))
    ∙ find_none (is_bad_slot f bytes) 0 f.slots e j (omega arith) (omega arith))) in
    false≢true (sym filled ∙ clear))

-- what was seen of the rest of a page
pub rest_seen : (f : Format) (bytes : List ℕ) (n start k : ℕ) (r : Bool) → start ≡ slot_start f n →
    k ≡ length bytes - start → r ≡ all_zero (take k (drop start bytes)) → r ≡ all_zero (drop (slot_start f n) bytes)
rest_seen f bytes n start k r at rest is =
    is ∙ ap all_zero (take_all k (drop start bytes) (omega (arith, length-drop start bytes)))
    ∙ ap (λ m. all_zero (drop m bytes)) at

-- a good record's lengths are within its slot
pub good_lengths : (f : Format) (s : List ℕ) → is_bad_record f s ≡ false →
    (key_length s ≤ f.key) × (value_length s ≤ f.value)
unfolding is_bad_record
good_lengths f s good =
    let p = or_parts _ _ good in
    let q = or_parts _ _ p.0 in
    let r = or_parts _ _ q.0 in
    let t = or_parts _ _ r.0 in
    (ltb-false _ _ t.1, ltb-false _ _ r.1)

-- ---- the rows of slots and records

-- where there is a bad slot, its fault is the first of slots and records
pub row_slot : (b t : Bool) (s m : ImageFault) → b ≡ true → Some s ≡ first_fault_of (where_so b s ∷ where_so t m ∷ [])
unfolding first_fault_of
row_slot b t s m e = rw e refl

-- where there is none, but a misfit, the misfit's fault is the first
pub row_misfit : (b t : Bool) (s m : ImageFault) → b ≡ false → t ≡ true →
    Some m ≡ first_fault_of (where_so b s ∷ where_so t m ∷ [])
unfolding first_fault_of
row_misfit b t s m e g = rw (e, g) refl

-- where there is neither, slots and records have no fault
pub row_none : (b t : Bool) (s m : ImageFault) → b ≡ false → t ≡ false →
    None ≡ first_fault_of (where_so b s ∷ where_so t m ∷ [])
unfolding first_fault_of
row_none b t s m e g = rw (e, g) refl
