-- Which bytes are a page.
use Rattle.std.proofs.Common.{◌≡◌, ℕ, ◌+◌, ◌^◌, ◌<◌, ◌≤◌, Bool, true, false, ◌||◌, ltb, List, [], ◌∷◌, length, take}
use Rattle.std.proofs.Common.{drop, get_or, Option, Some, None, refl, sym, ap, ◌∙◌, inl, inr, arith, zero-add}
use Rattle.std.specs.List.{slice_get, range_with_len, position_or_len, find}
use Rattle.std.specs.Option.{option_map}
use Rattle.std.specs.Prelude.{slice_index, if◌then◌else◌, ◌==◌}
use Rattle.std.specs.Int.{w32, from_le_bytes}
use Rattle.std.proofs.lemmas.Bool.{cases_lt, cases_Bool, and_parts, and_from, or_from, or_parts, not-false}
use Rattle.std.proofs.lemmas.Bool.{not_from_true, ltb-false, le-ltb, eqb-true}
use Rattle.std.proofs.lemmas.List.{append-nil, drop_more, same_lists, length-take, length-drop, get_or-take}
use Rattle.std.proofs.lemmas.List.{get_or-drop, get_or_past}
use Rattle.std.proofs.lemmas.List.FromFn.{get_or-range_with_len, length-range_with_len, get_or-map-range_with_len}
use Rattle.std.proofs.lemmas.List.FromFn.{length-map-range_with_len}
use Rattle.std.proofs.lemmas.List.Folds.{find_at}
use Rattle.std.proofs.lemmas.List.Sums.{fails_before_first}
use Rattle.std.proofs.lemmas.Nat.{le_bytes_4}
use Rattle.std.proofs.lemmas.Option.{slice_get-get_or, slice_get_past}
use Rattle.byteorder.specs.Endian.{little_number, little_bytes}
use Rattle.byteorder.specs.Numbers.{little_number-reads_back, little_from-lt}
use Rattle.lh_page.specs.declared.fault.PageFault.TheVariants.{Kind, Used, Slot}
use Rattle.lh_page.specs.declared.format.Format.{Format}
use Rattle.lh_page.specs.declared.page.Page.{Page}
use Rattle.lh_page.specs.declared.page.PageKind.{PageKind}
use Rattle.lh_page.specs.declared.page.PageKind.TheVariants.{Primary, Overflow}
use Rattle.lh_page.specs.declared.pair.Pair.{Pair}
use Rattle.lh_page.specs.Format.{slot_size, slot_start, page_size}
use Rattle.lh_page.specs.PageFields.{kind_of, used_of, bucket_of, next_of, is_clear, all_zero, pair_of, pairs_of}
use Rattle.lh_page.specs.PageFields.{page_of, has_bad_kind, is_bad_record, is_bad_slot, bad_slot, fault_of}
use Rattle.lh_page.specs.PageLaws.{AreBytes, FaultlessLaw, ReadBackLaw}
use Rattle.lh_page.specs.PageTable.{slot, slot_text, kind_byte, IsPage, IsWritable}
use Rattle.lh_page.specs.Records.{no_pair}
use Rattle.lh_page.specs.Rows.{field}
use Rattle.lh_page.proofs.Fields.{slots_apart}
use Rattle.lh_page.proofs.ReadPages.{find-none, is_bad_slot-used, is_bad_slot-unused}
use Rattle.lh_page.proofs.SlotText.{pair_of-text, good_text, text_from_good, fits_from_good}
use Rattle.lh_page.proofs.Zeros.{all_zero-zeros, zeros_of_length}

-- ---- one byte and four

field-one : (bytes : List ℕ) (k : ℕ) → k < length bytes → field bytes k 1 ≡ slice_index bytes k ∷ []
field-one bytes k below = ap (take 1) (drop_more bytes k 0 below)

byte_at : (bytes : List ℕ) (k x : ℕ) → k < length bytes → field bytes k 1 ≡ x ∷ [] → slice_index bytes k ≡ x
byte_at bytes k x below e = let f : slice_index bytes k ∷ [] ≡ x ∷ [] = sym (field-one bytes k below) ∙ e in cc

number_at : (bytes : List ℕ) (k x : ℕ) → x < 2 ^ 32 → field bytes k 4 ≡ little_bytes 4 x →
    little_number 4 (field bytes k 4) ≡ x
number_at bytes k x small e =
    ap (little_number 4) (e ∙ sym (append-nil (little_bytes 4 x))) ∙ little_number-reads_back 4 x [] small

bytes_in : (bytes : List ℕ) (k n : ℕ) → AreBytes bytes → (i : ℕ) → slice_index (field bytes k n) i < 256
bytes_in bytes k n fit i = elim (cases_lt i n) [
  | inl low ↦ rw (get_or-take n (drop k bytes) i 0 low, get_or-drop k bytes i 0) (fit (k + i))
  | inr high ↦ rw (get_or_past (field bytes k n) i 0 (omega (arith, length-take n (drop k bytes)))) (omega arith)
]

bytes_from_number : (bytes : List ℕ) (k : ℕ) → AreBytes bytes → k + 4 ≤ length bytes →
    field bytes k 4 ≡ little_bytes 4 (little_number 4 (field bytes k 4))
bytes_from_number bytes k fit within =
    let f : little_number 4 (field bytes k 4) ≡ from_le_bytes w32 (field bytes k 4) = omega arith in
    sym
    (le_bytes_4 (field bytes k 4) (little_number 4 (field bytes k 4))
    (omega (arith, length-take 4 (drop k bytes), length-drop k bytes)) (bytes_in bytes k 4 fit) f)

length-slot : (f : Format) (bytes : List ℕ) (i : ℕ) → length bytes ≡ page_size f → i < f.slots →
    length (slot f bytes i) ≡ slot_size f
length-slot f bytes i whole low =
    omega (
      arith,
      length-take (slot_size f) (drop (slot_start f i) bytes),
      length-drop (slot_start f i) bytes,
      slots_apart f i f.slots low,
    )

-- ---- reading what is written

kind_back : (k : PageKind) (n : ℕ) → n ≡ kind_byte k → (if n == 1 then Primary else Overflow) ≡ k
kind_back Primary n e = rw e refl
kind_back Overflow n e = rw e refl

kind_known : (k : PageKind) (n : ℕ) → n ≡ kind_byte k → (n == 1 || n == 2) ≡ true
kind_known Primary n e = rw e refl
kind_known Overflow n e = rw e refl

module _ (f : Format) (bytes : List ℕ) (page : Page) (w : IsWritable f page) (h : IsPage f bytes page) where
  used_back : used_of bytes ≡ length page.pairs
  used_back = byte_at bytes 1 (length page.pairs) (omega (arith, h.size)) h.used

  byte_kind : kind_of bytes ≡ kind_byte page.kind
  byte_kind = byte_at bytes 0 (kind_byte page.kind) (omega (arith, h.size)) h.kind

  slot_back : (i : ℕ) (d : Pair) → i < length page.pairs → slot f bytes i ≡ slot_text f (Some (get_or page.pairs i d))
  slot_back i d below =
      h.slots i (omega (arith, w.pairs.few)) ∙ ap (slot_text f) (slice_get-get_or page.pairs i d below)

  pairs_back : pairs_of f bytes ≡ page.pairs
  unfolding pairs_of
  pairs_back =
      let long : length (pairs_of f bytes) ≡ used_of bytes =
      length-map-range_with_len (λ i. pair_of f (slot f bytes i)) 0 (used_of bytes) in
      same_lists (pairs_of f bytes) page.pairs (long ∙ used_back) (λ k d below.
      let within : k < length page.pairs = omega (arith, long, used_back) in
      get_or-map-range_with_len (λ i. pair_of f (slot f bytes i)) 0 (used_of bytes) k k d (omega (arith, used_back))
      (zero-add k)
      ∙ ap (pair_of f) (slot_back k d within) ∙ pair_of-text f (get_or page.pairs k d) (w.pairs.records k d within))

  none_bad : (i : ℕ) → i < f.slots → is_bad_slot f bytes i ≡ false
  none_bad i low = elim (cases_lt i (length page.pairs)) [
    | inl used ↦
        is_bad_slot-used f bytes i (omega (arith, used_back)) ∙ ap (is_bad_record f) (slot_back i no_pair used)
        ∙ good_text f (get_or page.pairs i no_pair) (w.pairs.records i no_pair used)
    | inr unused ↦
        is_bad_slot-unused f bytes i (omega (arith, used_back))
        ∙ not_from_true _
        (ap all_zero (h.slots i low ∙ ap (slot_text f) (slice_get_past page.pairs i unused))
        ∙ all_zero-zeros (slot_size f))
  ]

  good_kind : has_bad_kind bytes ≡ false
  unfolding has_bad_kind is_clear
  good_kind =
      or_from _ _ (not_from_true _ (kind_known page.kind (kind_of bytes) byte_kind))
      (not_from_true _ (and_from _ _ (ap all_zero h.reserved) (ap all_zero h.padding)))

  no_fault : (b : ℕ) → length page.pairs ≤ b → fault_of f bytes b ≡ None
  unfolding fault_of bad_slot
  no_fault b room =
      rw (good_kind, le-ltb b (used_of bytes) (omega (arith, used_back)))
      (ap (option_map Slot) (find-none (is_bad_slot f bytes) f.slots none_bad))

  page_back : page_of f bytes ≡ page
  unfolding bucket_of next_of
  page_back i = record {
    kind = kind_back page.kind (kind_of bytes) byte_kind i;
    level = byte_at bytes 2 page.level (omega (arith, h.size)) h.level i;
    bucket = number_at bytes 4 page.bucket w.bucket h.bucket i;
    next = number_at bytes 8 page.next w.next h.next i;
    pairs = pairs_back i;
  }

-- what is written is read back, without a fault where the page has room for its records
pub read_back : ReadBackLaw
read_back f bytes page b writable h room = (page_back f bytes page writable h, no_fault f bytes page writable h b room)

-- ---- bytes without a fault

first_none : (a b : Bool) (o : Option ℕ) →
    (if a then Some Kind else if b then Some Used else option_map Slot o) ≡ None →
    (a ≡ false) × (b ≡ false) × (o ≡ None)
first_none true b o e = cc
first_none false true o e = cc
first_none false false (Some x) e = cc
first_none false false None e = (refl, refl, refl)

past_from_None : (xs : List ℕ) (i : ℕ) → slice_get xs i ≡ None → length xs ≤ i
past_from_None xs i e = elim (cases_lt i (length xs)) [
  | inl low ↦ let f : None ≡ Some (get_or xs i 0) = sym e ∙ slice_get-get_or xs i 0 low in cc
  | inr past ↦ past
]

fails_each : (p : ℕ → Bool) (n i : ℕ) → find p (range_with_len 0 n) ≡ None → i < n → p i ≡ false
fails_each p n i none low =
    let far : length (range_with_len 0 n) ≤ position_or_len p (range_with_len 0 n) =
    past_from_None _ _ (sym (find_at p (range_with_len 0 n)) ∙ none) in
    ap p (sym (get_or-range_with_len 0 n i 0 low ∙ zero-add i))
    ∙ fails_before_first p (range_with_len 0 n) i 0 (omega (arith, far, length-range_with_len 0 n))

kind_shown : (n : ℕ) → (n == 1 || n == 2) ≡ true → n ≡ kind_byte (if n == 1 then Primary else Overflow)
kind_shown n e = elim (cases_Bool (n == 1)) [
  | inl one ↦ rw one (eqb-true n 1 one)
  | inr other ↦ rw other (eqb-true n 2 (rw other at e))
]

module _ (f : Format) (bytes : List ℕ) (fit : AreBytes bytes) (long : length bytes ≡ page_size f)
    (none : fault_of f bytes f.slots ≡ None) where
  parts : (has_bad_kind bytes ≡ false) × (ltb f.slots (used_of bytes) ≡ false) × (bad_slot f bytes ≡ None)
  unfolding fault_of
  parts = first_none (has_bad_kind bytes) (ltb f.slots (used_of bytes)) (bad_slot f bytes) none

  few : used_of bytes ≤ f.slots
  few = ltb-false f.slots (used_of bytes) parts.1

  good_slot : (i : ℕ) → i < f.slots → is_bad_slot f bytes i ≡ false
  unfolding bad_slot
  good_slot i low = fails_each (is_bad_slot f bytes) f.slots i parts.2 low

  good_record : (i : ℕ) → i < used_of bytes → is_bad_record f (slot f bytes i) ≡ false
  good_record i used = sym (is_bad_slot-used f bytes i used) ∙ good_slot i (omega (arith, few))

  kind_good : (kind_of bytes == 1 || kind_of bytes == 2) ≡ true
  unfolding has_bad_kind
  kind_good = not-false _ ((or_parts _ _ parts.0).0)

  clear : (all_zero (field bytes 3 1) ≡ true) × (all_zero (field bytes 12 4) ≡ true)
  unfolding has_bad_kind is_clear
  clear = and_parts _ _ (not-false _ ((or_parts _ _ parts.0).1))

  length-pairs : length (pairs_of f bytes) ≡ used_of bytes
  unfolding pairs_of
  length-pairs = length-map-range_with_len (λ i. pair_of f (slot f bytes i)) 0 (used_of bytes)

  pairs_at : (i : ℕ) (d : Pair) → i < used_of bytes → get_or (pairs_of f bytes) i d ≡ pair_of f (slot f bytes i)
  unfolding pairs_of
  pairs_at i d used =
      get_or-map-range_with_len (λ i. pair_of f (slot f bytes i)) 0 (used_of bytes) i i d used (zero-add i)

  slot_shown : (i : ℕ) → i < f.slots → slot f bytes i ≡ slot_text f (slice_get (pairs_of f bytes) i)
  slot_shown i low = elim (cases_lt i (used_of bytes)) [
    | inl used ↦
        text_from_good f (slot f bytes i) (length-slot f bytes i long low) (good_record i used)
        ∙ ap (slot_text f)
        (sym
        (slice_get-get_or (pairs_of f bytes) i no_pair (omega (arith, length-pairs))
        ∙ ap Some (pairs_at i no_pair used)))
    | inr unused ↦
        zeros_of_length (slot f bytes i) (slot_size f) (length-slot f bytes i long low)
        (not-false _ (sym (is_bad_slot-unused f bytes i unused) ∙ good_slot i low))
        ∙ ap (slot_text f) (sym (slice_get_past (pairs_of f bytes) i (omega (arith, length-pairs))))
  ]

  shown : IsPage f bytes (page_of f bytes)
  unfolding bucket_of next_of
  shown = record {
    size = long;
    kind = field-one bytes 0 (omega arith) ∙ ap (λ n. n ∷ []) (kind_shown (kind_of bytes) kind_good);
    used = field-one bytes 1 (omega arith) ∙ ap (λ n. n ∷ []) (sym length-pairs);
    level = field-one bytes 2 (omega arith);
    reserved =
        zeros_of_length (field bytes 3 1) 1 (omega (arith, length-take 1 (drop 3 bytes), length-drop 3 bytes)) clear.0;
    bucket = bytes_from_number bytes 4 fit (omega arith);
    next = bytes_from_number bytes 8 fit (omega arith);
    padding =
        zeros_of_length (field bytes 12 4) 4 (omega (arith, length-take 4 (drop 12 bytes), length-drop 12 bytes))
        clear.1;
    slots = slot_shown;
  }

  writable : IsWritable f (page_of f bytes)
  unfolding bucket_of next_of
  writable = record {
    bucket = little_from-lt 0 4 (field bytes 4 4) (bytes_in bytes 4 4 fit);
    next = little_from-lt 0 4 (field bytes 8 4) (bytes_in bytes 8 4 fit);
    pairs = record {
      few = omega (arith, length-pairs, few);
      records = λ k d below.
          let used : k < used_of bytes = omega (arith, length-pairs) in
          rw (pairs_at k d used)
          (fits_from_good f (slot f bytes k) (length-slot f bytes k long (omega (arith, few)))
          (good_record k used));
    };
  }

-- a page's bytes are the writing of their fields exactly where they have no fault
pub faultless : FaultlessLaw
faultless f bytes fit long = (
  λ none. (shown f bytes fit long none, writable f bytes fit long none),
  λ h. no_fault f bytes (page_of f bytes) h.1 h.0 f.slots h.1.pairs.few,
)
