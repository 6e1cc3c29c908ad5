-- An image that was checked: no page that is met has a fault, and no key is found elsewhere than in its first record
use Rattle.std.proofs.Common.{◌≡◌, ℕ, zero, suc, ◌+◌, ◌-◌, ◌<◌, ◌≤◌, true, false, List, [], ◌∷◌, ◌++◌}
use Rattle.std.proofs.Common.{Option, Some, None, Result, Ok, Err, refl, sym, ap, subst, ◌∙◌, inl, inr, set, length}
use Rattle.std.proofs.Common.{arith}
use Rattle.std.specs.Option.{is_some, option_or}
use Rattle.std.specs.Str.{bytes_eq}
use Rattle.std.proofs.lemmas.Bool.{cases_lt}
use Rattle.std.proofs.lemmas.List.{get_or-set_other, get_or-set_same}
use Rattle.lh_addr.specs.Extent.{Extent}
use Rattle.lh_page.specs.declared.format.Format.{Format}
use Rattle.lh_page.specs.declared.head.PageHead.{PageHead}
use Rattle.lh_page.specs.declared.pair.Pair.{Pair}
use Rattle.lh_page.specs.PageFields.{bad_slot, is_bad_record, is_bad_slot, pair_of, used_of}
use Rattle.lh_page.specs.PageTable.{slot}
use Rattle.lh_bucket.specs.Listing.{Lists}
use Rattle.lh_image.specs.declared.fault.ImageFault.{ImageFault}
use Rattle.lh_image.specs.declared.fault.ImageFault.TheVariants.{ReadFault, Memory, Twice}
use Rattle.lh_image.specs.declared.header.Header.{Header}
use Rattle.lh_image.specs.declared.judge.page_checks.PageFaults.{PageFaults}
use Rattle.lh_image.specs.declared.table.PageEntry.{PageEntry}
use Rattle.lh_image.specs.declared.checked.index.PageIndex.{PageIndex}
use Rattle.lh_image.specs.Checked.{IsIndexed, index_at, no_index}
use Rattle.lh_image.specs.Faults.{bad_used, first_fault_of, has_bad_slot, image_fault}
use Rattle.lh_image.specs.Image.{ImageLaw, IsImage, OneListingLaw, listing_of}
use Rattle.lh_image.specs.Layout.{page, view_of}
use Rattle.lh_image.specs.Listed.{IsLate, IsMemoryOr, IsRead}
use Rattle.lh_image.specs.LookUp.{IsOpenedImage, first_pairs, found_first, found_from, head_rows_at, home_of}
use Rattle.lh_image.specs.LookUp.{look_up, own_fault, rest_rows_at, value_in}
use Rattle.lh_image.specs.Pages.{HaveCome}
use Rattle.lh_image.specs.Reading.{IsDueFault, judged_by, reading_of}
use Rattle.lh_image.specs.Version.{format_of, version_of}
use Rattle.lh_image.specs.View.{View, capacity, next, page_count}
use Rattle.lh_image.proofs.Faults.FirstAnswers.{none_first}
use Rattle.lh_image.proofs.Faults.Ranges.{find_none}
use Rattle.lh_image.proofs.Faults.Sound.{IsSound, sound_law}
use Rattle.lh_image.proofs.Looking.Scans.{first_pairs-more, value_more}
use Rattle.lh_image.proofs.Looking.Slots.{bad_used_slot}
use Rattle.lh_image.proofs.Looking.Steps.{IsOnItsWay, format_is, found_twice, head_is, here, pages_is, so_none}
use Rattle.lh_image.proofs.Looking.Values.{value_in-append}
use Rattle.lh_image.proofs.Paths.Packing.{used_rule}
use Rattle.lh_image.proofs.OfReading.Whole.{AnswersView, exact_is, image_is}

-- ---- what was checked

read_is : (bytes : List ℕ) (header : Header) (root : Extent) (entries : List PageEntry) (pairs : List Pair)
    (faults : PageFaults) → IsOpenedImage bytes header root → HaveCome bytes header header.pages entries pairs faults →
    IsRead bytes header entries pairs faults
read_is bytes header root entries pairs faults o come = record { come = come; faultless = o.faultless; size = o.size }

fault_by : (o : Option ImageFault) (v : View) (f : ImageFault) → judged_by o v ≡ Err f → o ≡ Some f
fault_by (Some g) v f e = let same : g ≡ f = cc in ap Some same
fault_by None v f e = absurd cc

fault_from : (bytes : List ℕ) (f : ImageFault) → reading_of bytes ≡ Err f → image_fault bytes ≡ Some f
unfolding reading_of
fault_from bytes f e = fault_by (image_fault bytes) (view_of bytes) f e

memory_or : (bytes : List ℕ) (f : ImageFault) → IsLate f → IsDueFault f (reading_of bytes) →
    IsMemoryOr f (image_fault bytes)
memory_or bytes Memory late due = tt
memory_or bytes ReadFault late due = absurd late
memory_or bytes f late due = fault_from bytes f due

module _ (bytes : List ℕ) (header : Header) (root : Extent) (entries : List PageEntry) (pairs : List Pair)
    (faults : PageFaults) (o : IsOpenedImage bytes header root)
    (come : HaveCome bytes header header.pages entries pairs faults) where
  -- a fault that the pages of opened bytes are answered with is the first of the bytes, or out of memory
  pub checked_fault : (f : ImageFault) → IsLate f → AnswersView header entries pairs faults (Err f) →
      IsMemoryOr f (image_fault bytes)
  checked_fault f late exact =
      memory_or bytes f late
      (exact_is bytes header entries pairs faults (Err f) (omega (arith, o.in_range.enough))
      (read_is bytes header root entries pairs faults o come) exact)

  -- opened bytes whose pages are answered with a listing are an image of the listing that they show
  pub checked_image : ImageLaw → OneListingLaw → (l : Lists) → AnswersView header entries pairs faults (Ok l) →
      IsImage bytes (listing_of (view_of bytes))
  checked_image law one l exact =
      let image : IsImage bytes l =
      image_is bytes header entries pairs faults (Ok l) law (omega (arith, o.in_range.enough))
      (read_is bytes header root entries pairs faults o come) exact in
      subst (IsImage bytes) (one bytes l image).1 image

-- ---- a page that has no fault by itself

own_parts : (v : View) (i p : ℕ) → own_fault v i p ≡ None →
    (first_fault_of (head_rows_at v p) ≡ None) × (has_bad_slot v p ≡ false)
unfolding own_fault
own_parts v i p e =
    let (kind, (number, (level, (used, (following, (slots, _)))))) =
    (none_first (head_rows_at v p ++ rest_rows_at v i p)).0 e in
    ((none_first (head_rows_at v p)).1 (kind, (number, (level, (used, tt)))), so_none _ _ slots)

-- a page that has no fault by itself has none by its head
pub own_head : (v : View) (i p : ℕ) → own_fault v i p ≡ None → None ≡ first_fault_of (head_rows_at v p)
own_head v i p e = sym (own_parts v i p e).0

none_from : (o : Option ℕ) → is_some o ≡ false → o ≡ None
none_from None e = refl
none_from (Some x) e = absurd cc

good_records : (f : Format) (bytes : List ℕ) (k : ℕ) → is_some (bad_slot f bytes) ≡ false → used_of bytes ≤ f.slots →
    k < used_of bytes → is_bad_record f (slot f bytes k) ≡ false
unfolding bad_slot
good_records f bytes k good few low =
    sym (bad_used_slot f bytes k low)
    ∙ find_none (is_bad_slot f bytes) 0 f.slots (none_from _ good) k (omega arith) (omega arith)

-- a page that has no fault by itself has no bad record in a used slot
pub own_records : (bytes : List ℕ) (i p : ℕ) (f : Format) (pg : List ℕ) (k : ℕ) → own_fault (view_of bytes) i p ≡ None →
    f ≡ format_of (version_of bytes) → pg ≡ page bytes p → used_of pg ≤ f.slots → k < used_of pg →
    is_bad_record f (slot f pg k) ≡ false
unfolding view_of
own_records bytes i p f pg k e fe pe few low =
    good_records f pg k
    (ap (λ g. is_some (bad_slot g pg)) fe ∙ ap (λ b. is_some (bad_slot (format_of (version_of bytes)) b)) pe
    ∙ (own_parts (view_of bytes) i p e).1) few low

-- ---- a key in its slot

module _ (f : Format) (bytes key : List ℕ) (n : ℕ) (before : value_in key (first_pairs f bytes n) ≡ None) where
  -- a key that isn't found in the first slots isn't found with one slot more, which has another key
  pub scanned_on : bytes_eq (pair_of f (slot f bytes n)).key key ≡ false →
      value_in key (first_pairs f bytes (n + 1)) ≡ None
  scanned_on other =
      ap (value_in key) (first_pairs-more f bytes n)
      ∙ value_more key (first_pairs f bytes n) (pair_of f (slot f bytes n)) false (sym other)
      ∙ ap (λ o. option_or o None) before

  module _ (same : bytes_eq (pair_of f (slot f bytes n)).key key ≡ true) where
    found_here : value_in key (first_pairs f bytes (n + 1)) ≡ Some (pair_of f (slot f bytes n)).value
    found_here =
        ap (value_in key) (first_pairs-more f bytes n)
        ∙ value_more key (first_pairs f bytes n) (pair_of f (slot f bytes n)) true (sym same)
        ∙ ap (λ o. option_or o (Some (pair_of f (slot f bytes n)).value)) before

    -- a key that none of the first slots has is found in the next one, and still is with more slots behind it
    pub found_still : (k m : ℕ) → m ≡ (n + 1) + k →
        value_in key (first_pairs f bytes m) ≡ Some (pair_of f (slot f bytes n)).value
    found_still zero m e =
        let at : m ≡ n + 1 = omega arith in ap (λ j. value_in key (first_pairs f bytes j)) at ∙ found_here
    found_still (suc k) m e =
        let at : m ≡ ((n + 1) + k) + 1 = omega arith in
        ap (λ j. value_in key (first_pairs f bytes j)) at ∙ ap (value_in key) (first_pairs-more f bytes ((n + 1) + k))
        ∙ value_in-append key (first_pairs f bytes ((n + 1) + k)) _
        ∙ ap (λ o. option_or o (value_in key (pair_of f (slot f bytes ((n + 1) + k)) ∷ [])))
        (found_still k ((n + 1) + k) refl)

-- ---- along a chain

no_fault_first : (o : Option ImageFault) (w : Option (List ℕ)) (further : Result (Option (List ℕ)) ImageFault)
    (answer : Option (List ℕ)) → found_first o w further ≡ Ok answer → o ≡ None
no_fault_first None w further answer e = refl
no_fault_first (Some f) w further answer e = absurd cc

-- where a look-up is on its way to an answer without a fault, the page that it meets has none by itself
pub step_good : (v : View) (key : List ℕ) (pages counter number : ℕ) (answer : Option (List ℕ)) →
    IsOnItsWay v key pages counter number → counter < pages → look_up v key ≡ Ok answer →
    own_fault v (home_of v key) number ≡ None
step_good v key pages counter number answer h more e =
    no_fault_first (own_fault v (home_of v key) number) (value_in key (v.records number))
    (found_from v key (pages - (counter + 1)) (next v number)) answer
    (sym (here v key pages counter number h more) ∙ e)

err_is_not_ok : (f : ImageFault) (answer : Option (List ℕ)) (r : Result (Option (List ℕ)) ImageFault) → r ≡ Err f →
    r ≡ Ok answer → ⊥
err_is_not_ok f answer r e g = cc

-- a chain of more pages than the file has would lead back to itself
pub never_past : (v : View) (key : List ℕ) (pages counter number : ℕ) (answer : Option (List ℕ)) →
    IsOnItsWay v key pages counter number → pages ≤ counter → look_up v key ≡ Ok answer → ⊥
never_past v key pages counter number answer h past e =
    let none : pages - counter ≡ 0 = omega arith in
    err_is_not_ok (Twice number) answer (look_up v key)
    (h.same ∙ ap (λ n. found_from v key n number) none ∙ found_twice v key number (λ z. omega (arith, h.from))) e

-- ---- what is kept of the pages

-- in an image each page has records within its slots, and no bad one
pub image_page : OneListingLaw → (bytes : List ℕ) (header : Header) (root : Extent) (l : Lists) →
    IsOpenedImage bytes header root → IsImage bytes l → (p : ℕ) → 1 ≤ p → p < header.pages →
    (f : Format) (pg : List ℕ) → f ≡ format_of header.version → pg ≡ page bytes p →
    (used_of pg ≤ f.slots) × ((k : ℕ) → k < used_of pg → is_bad_record f (slot f pg k) ≡ false)
unfolding view_of bad_used
image_page one bytes header root l o image p low high f pg fe pe =
    let v : View = view_of bytes in
    let sound : IsSound bytes = (sound_law bytes).0 (one bytes l image).0 in
    let below : p < page_count v = omega (arith, high, pages_is bytes header root o) in
    let few =
    ((used_rule (capacity v) (v.head p).used (v.head p).next (v.head p).kind).0 (sound.clean.used p low below)).0 in
    let cap : header.config.capacity ≡ capacity v = ap (λ (h : Header). h.config.capacity) o.fields in
    let slots : f.slots ≡ (format_of header.version).slots = ap (λ (x : Format). x.slots) fe in
    let own : used_of pg ≡ (v.head p).used = ap used_of pe ∙ ap (λ (h : PageHead). h.used) (head_is bytes p low) in
    let fits : used_of pg ≤ f.slots = omega (arith, few, cap, slots, own, o.in_range.room) in
    let format : f ≡ format_of (version_of bytes) = format_is bytes header root o f fe in (
      fits,
      λ k less.
          good_records f pg k
          (ap (λ g. is_some (bad_slot g pg)) format ∙ ap (λ b. is_some (bad_slot (format_of (version_of bytes)) b)) pe
          ∙ sound.clean.slots p low below) fits less,
    )

-- with the entry of one page more put into its place, the first pages and that one have their entries
pub entry_set : (bytes : List ℕ) (index : List PageIndex) (n : ℕ) (entry : PageIndex) (f : Format) (pg : List ℕ) →
    f ≡ format_of (version_of bytes) → pg ≡ page bytes n → n < length index →
    ((p : ℕ) → 1 ≤ p → p < n → IsIndexed (format_of (version_of bytes)) (page bytes p) (index_at index p)) →
    IsIndexed f pg entry → (p : ℕ) → 1 ≤ p → p < n + 1 →
    IsIndexed (format_of (version_of bytes)) (page bytes p) (index_at (set index n entry) p)
entry_set bytes index n entry f pg fe pe within are is p low high = elim (cases_lt p n) [
  | inl before ↦ rw (get_or-set_other index n p entry no_index (λ z. omega (arith, before, z))) (are p low before)
  | inr there ↦
      let at : p ≡ n = omega arith in
      let own : IsIndexed (format_of (version_of bytes)) (page bytes n) entry =
      subst (λ b. IsIndexed (format_of (version_of bytes)) b entry) pe (subst (λ g. IsIndexed g pg entry) fe is) in
      rw (at, get_or-set_same index n entry no_index within) own
]

-- the entry of a page in the bytes is the entry of the page that was cut out of them
pub indexed_as : (bytes : List ℕ) (p : ℕ) (entry : PageIndex) (f : Format) (pg : List ℕ) →
    f ≡ format_of (version_of bytes) → pg ≡ page bytes p →
    IsIndexed (format_of (version_of bytes)) (page bytes p) entry → IsIndexed f pg entry
indexed_as bytes p entry f pg fe pe is =
    subst (λ g. IsIndexed g pg entry) (sym fe)
    (subst (λ b. IsIndexed (format_of (version_of bytes)) b entry) (sym pe) is)
