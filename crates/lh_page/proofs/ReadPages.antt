-- Reading a page slot by slot.
use Rattle.std.proofs.Common.{◌≡◌, ℕ, ◌+◌, ◌-◌, ◌*◌, ◌<◌, ◌≤◌, Bool, true, false, not, List, [], ◌∷◌, ◌++◌, length}
use Rattle.std.proofs.Common.{take, drop, get_or, map, Some, None, refl, sym, ap, ◌∙◌, inl, inr, arith, zero-add}
use Rattle.std.specs.List.{find, range_with_len, position_or_len, slice_get}
use Rattle.std.specs.Prelude.{if◌then◌else◌}
use Rattle.std.proofs.lemmas.Bool.{cases_lt, lt-ltb, le-ltb, not_from_true, not_from_false}
use Rattle.std.proofs.lemmas.List.Folds.{find_at}
use Rattle.std.proofs.lemmas.List.FromFn.{get_or-range_with_len, length-range_with_len, map-range_with_len_more}
use Rattle.std.proofs.lemmas.List.{length_push, length-drop, take_all, drop-drop}
use Rattle.std.proofs.lemmas.List.Sums.{position_or_len_is}
use Rattle.std.proofs.lemmas.Option.{slice_get-get_or, slice_get_past}
use Rattle.lh_page.specs.declared.format.Format.{Format}
use Rattle.lh_page.specs.declared.pair.Pair.{Pair}
use Rattle.lh_page.specs.Format.{slot_size, slot_start}
use Rattle.lh_page.specs.PageFields.{all_zero, used_of, pair_of, pairs_of, is_bad_record, is_bad_slot, bad_slot}
use Rattle.lh_page.specs.PageFields.{UnusedAreZero, FirstFilled}
use Rattle.lh_page.specs.PageTable.{slot}
use Rattle.lh_page.proofs.Zeros.{all_zero-parts}

-- ---- the first of some numbers

at_range : (p : ℕ → Bool) (n k : ℕ) (b : Bool) → k < n → p k ≡ b → p (get_or (range_with_len 0 n) k 0) ≡ b
at_range p n k b low e = ap p (get_or-range_with_len 0 n k 0 low ∙ zero-add k) ∙ e

-- of the numbers from zero on, the first that passes a test is found
pub find-first : (p : ℕ → Bool) (n i : ℕ) → i < n → ((k : ℕ) → k < i → p k ≡ false) → p i ≡ true →
    find p (range_with_len 0 n) ≡ Some i
find-first p n i low before here =
    let long : length (range_with_len 0 n) ≡ n = length-range_with_len 0 n in
    let first : position_or_len p (range_with_len 0 n) ≡ i =
    position_or_len_is p (range_with_len 0 n) i 0 (omega arith)
    (λ k less. at_range p n k false (omega arith) (before k less)) (λ _. at_range p n i true low here) in
    find_at p (range_with_len 0 n) ∙ ap (slice_get (range_with_len 0 n)) first
    ∙ slice_get-get_or (range_with_len 0 n) i 0 (omega arith)
    ∙ ap Some (get_or-range_with_len 0 n i 0 low ∙ zero-add i)

-- where none of them passes, none is found
pub find-none : (p : ℕ → Bool) (n : ℕ) → ((k : ℕ) → k < n → p k ≡ false) → find p (range_with_len 0 n) ≡ None
find-none p n none =
    let long : length (range_with_len 0 n) ≡ n = length-range_with_len 0 n in
    let past : position_or_len p (range_with_len 0 n) ≡ length (range_with_len 0 n) =
    position_or_len_is p (range_with_len 0 n) (length (range_with_len 0 n)) 0 (omega arith)
    (λ k less. at_range p n k false (omega arith) (none k (omega arith))) (λ less. absurd (omega arith)) in
    find_at p (range_with_len 0 n) ∙ ap (slice_get (range_with_len 0 n)) past
    ∙ slice_get_past (range_with_len 0 n) (length (range_with_len 0 n)) (omega arith)

-- ---- slots

-- a used slot is bad exactly where its record is bad
pub is_bad_slot-used : (f : Format) (bytes : List ℕ) (i : ℕ) → i < used_of bytes →
    is_bad_slot f bytes i ≡ is_bad_record f (slot f bytes i)
unfolding is_bad_slot
is_bad_slot-used f bytes i used = rw (lt-ltb i (used_of bytes) used) refl

-- a slot that isn't used is bad exactly where it isn't all zeros
pub is_bad_slot-unused : (f : Format) (bytes : List ℕ) (i : ℕ) → used_of bytes ≤ i →
    is_bad_slot f bytes i ≡ not (all_zero (slot f bytes i))
unfolding is_bad_slot
is_bad_slot-unused f bytes i unused = rw (le-ltb i (used_of bytes) unused) refl

chosen_some : (b : Bool) (x y : Pair) → Some y ≡ (if b then None else Some x) → (b ≡ false) × (y ≡ x)
chosen_some true x y e = cc
chosen_some false x y e = (refl, cc)

chosen_none : (b : Bool) (x : Pair) → None ≡ (if b then None else Some x) → b ≡ true
chosen_none true x e = refl
chosen_none false x e = cc

-- the slots before place n have no fault, and these are their records
pub record IsReadTo (f : Format) (bytes : List ℕ) (pairs : List Pair) (n : ℕ) : Type 0 where
  pub good : (i : ℕ) → i < n → is_bad_slot f bytes i ≡ false
  pub long : length pairs ≡ n
  pub read : pairs ≡ map (λ i. pair_of f (slot f bytes i)) (range_with_len 0 n)

-- one used slot more was read, without a fault, and its record comes last
pub read_more : (f : Format) (bytes s : List ℕ) (pairs : List Pair) (n : ℕ) (pair : Pair) → n < used_of bytes →
    s ≡ slot f bytes n → Some pair ≡ (if is_bad_record f s then None else Some (pair_of f s)) →
    IsReadTo f bytes pairs n → IsReadTo f bytes (pairs ++ pair ∷ []) (n + 1)
read_more f bytes s pairs n pair used is read h =
    let e = chosen_some (is_bad_record f s) (pair_of f s) pair read in
    record {
      good = λ i below. elim (cases_lt i n) [
        | inl before ↦ h.good i before
        | inr there ↦ let same : i ≡ n =
            omega arith in rw same (is_bad_slot-used f bytes n used ∙ ap (is_bad_record f) (sym is) ∙ e.0)
      ];
      long = omega (arith, h.long, length_push pairs pair);
      read =
          ap (λ ps. ps ++ pair ∷ []) h.read
          ∙ ap (λ p. map (λ i. pair_of f (slot f bytes i)) (range_with_len 0 n) ++ p ∷ []) (e.1 ∙ ap (pair_of f) is)
          ∙ sym (map-range_with_len_more (λ i. pair_of f (slot f bytes i)) 0 n n (zero-add n));
    }

-- a used slot from which no record is read, behind slots without a fault, is the least bad one
pub bad_slot-read : (f : Format) (bytes s : List ℕ) (pairs : List Pair) (n : ℕ) → n < f.slots → n < used_of bytes →
    s ≡ slot f bytes n → None ≡ (if is_bad_record f s then None else Some (pair_of f s)) → IsReadTo f bytes pairs n →
    bad_slot f bytes ≡ Some n
unfolding bad_slot
bad_slot-read f bytes s pairs n low used is read h =
    find-first (is_bad_slot f bytes) f.slots n low h.good
    (is_bad_slot-used f bytes n used ∙ ap (is_bad_record f) (sym is)
    ∙ chosen_none (is_bad_record f s) (pair_of f s) read)

good_to : (f : Format) (bytes : List ℕ) (pairs : List Pair) (n to : ℕ) → n ≡ used_of bytes →
    UnusedAreZero f bytes n to → IsReadTo f bytes pairs n → (i : ℕ) → i < to → is_bad_slot f bytes i ≡ false
good_to f bytes pairs n to same zero h i below = elim (cases_lt i n) [
  | inl before ↦ h.good i before
  | inr behind ↦ is_bad_slot-unused f bytes i (omega arith) ∙ not_from_true _ (zero i behind below)
]

-- where all used slots were read, the first slot behind them that isn't all zeros is the least bad one
pub bad_slot-filled : (f : Format) (bytes : List ℕ) (pairs : List Pair) (n i : ℕ) → n ≡ used_of bytes →
    FirstFilled f bytes n i → IsReadTo f bytes pairs n → bad_slot f bytes ≡ Some i
unfolding bad_slot
bad_slot-filled f bytes pairs n i same first h =
    find-first (is_bad_slot f bytes) f.slots i first.1 (good_to f bytes pairs n i same first.2 h)
    (is_bad_slot-unused f bytes i (omega (arith, first.0)) ∙ not_from_false _ first.3)

-- where all used slots were read and those behind them are all zeros, no slot is bad
pub bad_slot-none : (f : Format) (bytes : List ℕ) (pairs : List Pair) (n : ℕ) → n ≡ used_of bytes →
    UnusedAreZero f bytes n f.slots → IsReadTo f bytes pairs n → bad_slot f bytes ≡ None
unfolding bad_slot
bad_slot-none f bytes pairs n same zero h =
    find-none (is_bad_slot f bytes) f.slots (good_to f bytes pairs n f.slots same zero h)

-- the records that were read from all used slots are those of the page
pub pairs_of-read : (f : Format) (bytes : List ℕ) (pairs : List Pair) (n : ℕ) → n ≡ used_of bytes →
    IsReadTo f bytes pairs n → pairs ≡ pairs_of f bytes
unfolding pairs_of
pairs_of-read f bytes pairs n same h =
    h.read ∙ ap (λ m. map (λ i. pair_of f (slot f bytes i)) (range_with_len 0 m)) same

-- behind a place from which all bytes are zero, each slot is all zeros
pub unused_are_zero : (f : Format) (bytes : List ℕ) (used to k : ℕ) → length bytes ≤ slot_start f used + k →
    all_zero (take k (drop (slot_start f used) bytes)) ≡ true → UnusedAreZero f bytes used to
unused_are_zero f bytes used to k rest h i from below =
    let start = slot_start f used in
    let more = (i - used) * slot_size f in
    let whole : take k (drop start bytes) ≡ drop start bytes =
    take_all k (drop start bytes) (omega (arith, length-drop start bytes)) in
    let behind : i ≡ used + (i - used) = omega arith in
    let gap : slot_start f (used + (i - used)) ≡ start + more = omega arith in
    let far : all_zero (drop more (drop start bytes)) ≡ true =
    (all_zero-parts more (drop start bytes) (rw whole at h)).1 in
    let here : all_zero (drop (slot_start f i) bytes) ≡ true =
    ap (λ k. all_zero (drop k bytes)) (ap (slot_start f) behind ∙ gap)
    ∙ ap all_zero (sym (drop-drop more start bytes)) ∙ far in
    (all_zero-parts (slot_size f) (drop (slot_start f i) bytes) here).0
