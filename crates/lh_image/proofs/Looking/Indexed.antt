-- A page that a look-up meets in an image that was checked, by what is kept of it
use Rattle.std.proofs.Common.{◌≡◌, ◌≢◌, ◌↔◌, ℕ, zero, suc, ◌+◌, ◌-◌, ◌*◌, ◌/◌, ◌<◌, ◌≤◌, Bool, true, false, List}
use Rattle.std.proofs.Common.{Some, None, Ok, refl, sym, ap, ◌∙◌, arith, slice_index}
use Rattle.std.specs.Int.{bit_at}
use Rattle.std.specs.Str.{bytes_eq}
use Rattle.std.proofs.lemmas.Slice.Eq.{bytes_eq-Decides}
use Rattle.lh_addr.specs.Fnv.{code_of}
use Rattle.lh_addr.specs.Extent.{Extent}
use Rattle.lh_page.specs.declared.format.Format.{Format}
use Rattle.lh_page.specs.declared.head.PageHead.{PageHead}
use Rattle.lh_page.specs.PageFields.{is_bad_record, pair_of, pairs_of, used_of}
use Rattle.lh_page.specs.PageTable.{slot}
use Rattle.lh_image.specs.declared.checked.index.PageIndex.{PageIndex}
use Rattle.lh_image.specs.declared.header.Header.{Header}
use Rattle.lh_image.specs.Checked.{IsChecked, code_mark, index_at}
use Rattle.lh_image.specs.Image.{OneListingLaw, listing_of}
use Rattle.lh_image.specs.Indexed.{IsGoodPage}
use Rattle.lh_image.specs.Layout.{page, view_of}
use Rattle.lh_image.specs.LookUp.{IsSlotOf, MapLaw, first_pairs, found_from, home_of, look_up, own_fault, value_in}
use Rattle.lh_image.specs.Version.{format_of}
use Rattle.lh_image.specs.View.{next}
use Rattle.lh_image.proofs.Looking.Checked.{image_page, indexed_as, own_head, own_records, scanned_on, step_good}
use Rattle.lh_image.proofs.Looking.Steps.{IsOnItsWay, format_is, found_end, goes_on, head_is, place_is, slot_is}
use Rattle.lh_image.proofs.Looking.Steps.{step_next, used_fits}
use Rattle.lh_image.proofs.Looking.Values.{value_in-none}

module _ (law : MapLaw) (bytes key : List ℕ) (header : Header) (root : Extent) (index : List PageIndex)
    (checked : IsChecked bytes header root index) (counter number : ℕ)
    (way : IsOnItsWay (view_of bytes) key header.pages counter number) (more : counter < header.pages) where
  -- the page has no fault by itself
  pub own_none : own_fault (view_of bytes) (home_of (view_of bytes) key) number ≡ None
  own_none =
      step_good (view_of bytes) key header.pages counter number _ way more
      (law bytes (listing_of (view_of bytes)) key checked.image)

  -- the page that follows is kept of it
  pub next_kept : (index_at index number).next ≡ next (view_of bytes) number
  next_kept =
      (checked.pages.pages number way.from way.below).next
      ∙ ap (λ (h : PageHead). h.next) (head_is bytes number way.from)

  module _ (f : Format) (pg : List ℕ) (fe : f ≡ format_of header.version) (pe : pg ≡ page bytes number) where
    -- its used slots have records, and what is kept of it is its own
    pub good_page : IsGoodPage f pg (index_at index number)
    good_page =
        let format = format_is bytes header root checked.opened f fe in
        let e = ap used_of pe ∙ ap (λ (h : PageHead). h.used) (head_is bytes number way.from) in
        let few : used_of pg ≤ f.slots =
        omega (
          arith,
          e,
          used_fits bytes header root checked.opened number f
              (own_head (view_of bytes) (home_of (view_of bytes) key) number own_none) fe,
        ) in
        record {
          few = few;
          good = λ i low. own_records bytes (home_of (view_of bytes) key) number f pg i own_none format pe few low;
          kept =
              indexed_as bytes number (index_at index number) f pg format pe
              (checked.pages.pages number way.from way.below);
        }

    -- the value in the slot of the key is what is found
    pub found_there : (k : ℕ) (value : List ℕ) → IsSlotOf f pg key (pairs_of f pg) (Some k) →
        value ≡ (pair_of f (slot f pg k)).value → look_up (view_of bytes) key ≡ Ok (Some value)
    found_there k value at is =
        let format = format_is bytes header root checked.opened f fe in
        let there = slot_is bytes key number f pg (Some k) format pe at in
        (place_is bytes header root checked.opened key counter number way more k own_none there).found
        ∙ ap (λ v. Ok (Some v))
        (sym
        (is ∙ ap (λ b. (pair_of f (slot f b k)).value) pe
        ∙ ap (λ (g : Format). (pair_of g (slot g (page bytes number) k)).value) format))

    module _ (none : IsSlotOf f pg key (pairs_of f pg) None) where
      absent_there : value_in key ((view_of bytes).records number) ≡ None
      absent_there =
          slot_is bytes key number f pg None (format_is bytes header root checked.opened f fe) pe none

      -- where the key isn't in the page and no page follows, it isn't found
      pub ends_there : (index_at index number).next ≡ 0 → look_up (view_of bytes) key ≡ Ok None
      ends_there last =
          step_next (view_of bytes) key header.pages counter number way more own_none absent_there
          ∙ ap (found_from (view_of bytes) key (header.pages - (counter + 1))) (sym next_kept ∙ last)
          ∙ found_end (view_of bytes) key (header.pages - (counter + 1))

      -- and where one follows, the look-up is on its way there
      pub leads_on : (index_at index number).next ≢ 0 →
          IsOnItsWay (view_of bytes) key header.pages (counter + 1) (index_at index number).next
      leads_on some =
          goes_on bytes header root checked.opened key counter number way more (index_at index number).next own_none
          absent_there next_kept some

-- ---- the slots of a page whose mark is a key's

-- the used slots whose bit isn't set have another key
abbrev pub IsElsewhere : Format → List ℕ → List ℕ → ℕ → Type 0
IsElsewhere f pg key left =
    (i : ℕ) → i < used_of pg → bit_at left i ≡ 0 → bytes_eq (pair_of f (slot f pg i)).key key ≡ false

-- where none of the first slots has the key, it isn't found in them
pub none_below : (f : Format) (pg key : List ℕ) (n : ℕ) →
    ((i : ℕ) → i < n → bytes_eq (pair_of f (slot f pg i)).key key ≡ false) →
    value_in key (first_pairs f pg n) ≡ None
none_below f pg key zero h = value_in-none key
none_below f pg key (suc n) h =
    let more : suc n ≡ n + 1 = omega arith in
    ap (λ m. value_in key (first_pairs f pg m)) more
    ∙ scanned_on f pg key n (none_below f pg key n (λ i low. h i (omega (arith, low)))) (h n (omega arith))

not_same : (f : Format) (pg key : List ℕ) (i mark : ℕ) → mark ≢ code_mark (code_of key) →
    mark ≡ code_mark (code_of (pair_of f (slot f pg i)).key) → (b : Bool) →
    bytes_eq (pair_of f (slot f pg i)).key key ≡ b → b ≡ false
not_same f pg key i mark other own false e = refl
not_same f pg key i mark other own true e =
    absurd (other (own ∙ ap (λ k. code_mark (code_of k)) ((bytes_eq-Decides (pair_of f (slot f pg i)).key key).0 e)))

-- a slot with another mark has another key
pub marked_elsewhere : (f : Format) (pg key : List ℕ) (entry : PageIndex) (mark bits : ℕ) → IsGoodPage f pg entry →
    f.slots ≤ 24 → mark ≡ code_mark (code_of key) →
    ((i : ℕ) → i < 24 → (bit_at bits i ≡ 1) ↔ (slice_index entry.marks i ≡ mark)) → IsElsewhere f pg key bits
marked_elsewhere f pg key entry mark bits good few is places i low clear =
    not_same f pg key i (slice_index entry.marks i)
    (λ same. one_zero (bit_at bits i) clear ((places i (omega (arith, low, good.few, few))).1 (same ∙ sym is)))
    (good.kept.marks i low) _ refl
  where
    one_zero : (n : ℕ) → n ≡ 0 → n ≡ 1 → ⊥
    one_zero n e g = omega (arith, e, g)

-- ---- a page of an image that was checked, whether a look-up meets it or not

module _ (one : OneListingLaw) (bytes : List ℕ) (header : Header) (root : Extent) (index : List PageIndex)
    (checked : IsChecked bytes header root index) (p : ℕ) (low : 1 ≤ p) (high : p < header.pages) (f : Format)
    (pg : List ℕ) (fe : f ≡ format_of header.version) (pe : pg ≡ page bytes p) where
  -- as many slots are used as are kept to be
  pub kept_used : (index_at index p).used ≡ used_of pg
  kept_used = (checked.pages.pages p low high).used ∙ ap used_of (sym pe)

  own_page : (used_of pg ≤ f.slots) × ((k : ℕ) → k < used_of pg → is_bad_record f (slot f pg k) ≡ false)
  own_page =
      image_page one bytes header root (listing_of (view_of bytes)) checked.opened checked.image p low high f pg fe pe

  -- no more than there are
  pub kept_fits : used_of pg ≤ f.slots
  kept_fits = own_page.0

  -- and each has a record
  pub kept_good : (k : ℕ) → k < used_of pg → is_bad_record f (slot f pg k) ≡ false
  kept_good = own_page.1

-- a page with a used slot isn't the first
pub not_first : (n r k : ℕ) → (n ≡ 0 → r ≡ 0) → k < r → 1 ≤ n
not_first zero r k h less = absurd (omega (arith, h refl, less))
not_first (suc n) r k h less = omega arith

-- a place before the end lies in one of the pages
pub place_below : (at m n : ℕ) → at < m * 24 → m ≤ n → at / 24 < n
place_below at m n less few = omega arith
