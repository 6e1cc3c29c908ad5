-- One page after the other, as the code and as the View have them
use Rattle.std.proofs.Common.{◌≡◌, ◌≢◌, ℕ, zero, suc, ◌+◌, ◌-◌, ◌*◌, ◌<◌, ◌≤◌, Bool, true, false, not, ◌||◌, ◌&&◌, eqb}
use Rattle.std.proofs.Common.{ltb, leb, List, [], ◌∷◌, ◌++◌, length, take, drop, Option, Some, None, Ok, Err, refl, sym}
use Rattle.std.proofs.Common.{ap, subst, ◌∙◌, arith}
use Rattle.std.specs.List.{list_any}
use Rattle.std.specs.Option.{is_some}
use Rattle.std.proofs.lemmas.Bool.{or_parts, ne_eqb, eq-eqb, false≢true}
use Rattle.std.proofs.lemmas.Bool.Decides.{nat_tests}
use Rattle.std.proofs.Math.Nat.{mul-le-mul_left}
use Rattle.lh_addr.specs.Extent.{Extent}
use Rattle.lh_addr.specs.Fnv.{code_of}
use Rattle.lh_addr.specs.Growth.{address}
use Rattle.lh_page.specs.declared.format.Format.{Format}
use Rattle.lh_page.specs.declared.head.PageHead.{PageHead}
use Rattle.lh_page.specs.declared.pair.Pair.{Pair}
use Rattle.lh_page.specs.Format.{page_size}
use Rattle.lh_page.specs.PageFields.{bad_slot, head_of, pairs_of}
use Rattle.lh_image.specs.declared.fault.ImageFault.{ImageFault}
use Rattle.lh_image.specs.declared.fault.ImageFault.TheVariants.{Slot, Misfit, Next, Twice}
use Rattle.lh_image.specs.declared.header.Header.{Header}
use Rattle.lh_image.specs.declared.version.Version.{Version}
use Rattle.lh_image.specs.Faults.{at_head, bad_bucket, bad_kind, bad_level, bad_next, bad_used, first_fault_of}
use Rattle.lh_image.specs.Faults.{has_bad_slot, where_so}
use Rattle.lh_image.specs.Layout.{header_of, page, view_of}
use Rattle.lh_image.specs.LookUp.{IsOpenedImage, IsPlaceOf, IsSlotOf, found_first, found_from, has_stranger}
use Rattle.lh_image.specs.LookUp.{head_rows_at, home_of, look_up, own_fault, rest_rows_at, value_in, slot_value}
use Rattle.lh_image.specs.Misplaced.{is_home}
use Rattle.lh_image.specs.PageChecks.{known_bad_level}
use Rattle.lh_image.specs.Version.{format_of, page_bytes, version_of}
use Rattle.lh_image.specs.View.{View, initial, buckets, page_count, bucket, capacity, next, links}
use Rattle.lh_image.proofs.Bytes.Header.{version_shown}
use Rattle.lh_image.proofs.Faults.FirstAnswers.{first_before, first_behind, none_first}
use Rattle.lh_image.proofs.Paths.Packing.{used_rule}

-- ---- what is opened

module _ (bytes : List ℕ) (header : Header) (root : Extent) (o : IsOpenedImage bytes header root) where
  -- the header's version is that of the bytes
  pub version_is : header.version ≡ version_of bytes
  version_is = ap (λ (h : Header). h.version) o.fields ∙ version_shown bytes

  -- the root has the initial and the present number of buckets of the View
  pub root_is : root ≡ record { initial = initial (view_of bytes); buckets = buckets (view_of bytes) }
  unfolding view_of
  root_is =
      o.extent
      ∙ ap (λ (h : Header). let e : Extent = record { initial = h.config.initial; buckets = h.buckets } in e) o.fields

  -- the header has as many pages as the View
  pub pages_is : header.pages ≡ page_count (view_of bytes)
  unfolding view_of
  pages_is = ap (λ (h : Header). h.pages) o.fields

  -- a page lies within the bytes
  pub page_fits : (size number : ℕ) → size ≡ page_bytes header.version → number < header.pages →
      size * number + size ≤ length bytes
  page_fits size number is low =
      let w : size ≡ page_bytes (version_of bytes) = is ∙ ap page_bytes version_is in
      let more : number + 1 ≤ header.pages = omega arith in
      let whole : length bytes ≡ size * header.pages = o.size ∙ ap (λ n. n * header.pages) (sym w) in
      omega (arith, mul-le-mul_left size more, whole)

  -- the bytes that are cut out at a page's place are that page
  pub page_is : (size number n : ℕ) → size ≡ page_bytes header.version → n ≡ size →
      take n (drop (size * number) bytes) ≡ page bytes number
  unfolding page
  page_is size number n is same =
      let w : size ≡ page_bytes (version_of bytes) = is ∙ ap page_bytes version_is in
      ap (λ m. take m (drop (size * number) bytes)) (same ∙ w)
      ∙ ap (λ m. take (page_bytes (version_of bytes)) (drop (m * number) bytes)) w

  -- a test of heads, by the header that was read
  pub test_is : (test : Header → ℕ → PageHead → Bool) (number : ℕ) (head : PageHead) (r : Bool) →
      head ≡ (view_of bytes).head number → r ≡ test header number head → r ≡ at_head test (view_of bytes) number
  unfolding view_of
  test_is test number head r h e =
      e ∙ ap (λ (x : Header). test x number head) o.fields ∙ ap (test (header_of bytes) number) h

-- the head that the View shows of a page behind the header is that of the page's bytes
pub head_is : (bytes : List ℕ) (number : ℕ) → 1 ≤ number → head_of (page bytes number) ≡ (view_of bytes).head number
unfolding view_of
head_is bytes number low = rw (ne_eqb number 0 (λ z. omega arith)) refl

-- ---- the faults by the head

abbrev four : Bool → Bool → Bool → Bool → ImageFault → ImageFault → ImageFault → ImageFault → Option ImageFault
four a b c d A B C D = first_fault_of (where_so a A ∷ where_so b B ∷ where_so c C ∷ where_so d D ∷ [])

-- of four rows, the first gives the fault where its condition holds
pub four_1 : (a b c d : Bool) (A B C D : ImageFault) → true ≡ a → Some A ≡ four a b c d A B C D
unfolding first_fault_of
four_1 a b c d A B C D e = rw (← e) refl

-- the second gives it where its condition holds and the first's doesn't
pub four_2 : (a b c d : Bool) (A B C D : ImageFault) → false ≡ a → true ≡ b → Some B ≡ four a b c d A B C D
unfolding first_fault_of
four_2 a b c d A B C D e f = rw (← e, ← f) refl

-- the third gives it where its condition holds and neither of those before does
pub four_3 : (a b c d : Bool) (A B C D : ImageFault) → false ≡ a → false ≡ b → true ≡ c → Some C ≡ four a b c d A B C D
unfolding first_fault_of
four_3 a b c d A B C D e f g = rw (← e, ← f, ← g) refl

-- the fourth gives it where its condition holds and none of those before does
pub four_4 : (a b c d : Bool) (A B C D : ImageFault) → false ≡ a → false ≡ b → false ≡ c → true ≡ d →
    Some D ≡ four a b c d A B C D
unfolding first_fault_of
four_4 a b c d A B C D e f g h = rw (← e, ← f, ← g, ← h) refl

-- there is no fault where none of the four conditions holds
pub four_0 : (a b c d : Bool) (A B C D : ImageFault) → false ≡ a → false ≡ b → false ≡ c → false ≡ d →
    None ≡ four a b c d A B C D
unfolding first_fault_of
four_0 a b c d A B C D e f g h = rw (← e, ← f, ← g, ← h) refl

below_by : (b S : ℕ) → leb S b ≡ false → ltb b S ≡ true
below_by b S e = grind (arith, nat_tests)

and_true : (a b : Bool) → a ≡ true → (a && b) ≡ b
and_true true b e = refl
and_true false b e = absurd (false≢true e)

-- where the bucket is known, the level that is compared is the one that is due
pub level_known : (h : Header) (p : ℕ) (head : PageHead) (r : Bool) → false ≡ bad_bucket h p head →
    r ≡ known_bad_level h p head → r ≡ bad_level h p head
unfolding bad_bucket
level_known h p head r good e =
    let parts = or_parts (leb p h.buckets && not (eqb head.bucket (p - 1))) (leb h.buckets head.bucket) (sym good) in
    e ∙ and_true (ltb head.bucket h.buckets) (bad_level h p head) (below_by head.bucket h.buckets parts.1)

-- where a condition's row gives no fault, the condition doesn't hold
pub so_none : (b : Bool) (f : ImageFault) → where_so b f ≡ None → b ≡ false
so_none true f e = absurd cc
so_none false f e = refl

pub record HeadIsGood (v : View) (p : ℕ) : Type 0 where
  pub kind : at_head bad_kind v p ≡ false
  pub number : at_head bad_bucket v p ≡ false
  pub level : at_head bad_level v p ≡ false
  pub used : at_head bad_used v p ≡ false

-- where a page has no fault by its head, none of the four conditions of heads holds
pub head_good : (v : View) (p : ℕ) → first_fault_of (head_rows_at v p) ≡ None → HeadIsGood v p
head_good v p e =
    let (kind, (number, (level, (used, _)))) = (none_first (head_rows_at v p)).0 e in
    record { kind = so_none _ _ kind; number = so_none _ _ number; level = so_none _ _ level; used = so_none _ _ used }

-- ---- the page that follows

-- over plain numbers: a page that names no next page has no bad one
pub next_none : (x S P b d : ℕ) → x ≡ 0 → false ≡ (not (eqb x 0) && (leb x S || leb P x || not (eqb d b)))
next_none x S P b d e = grind (arith, nat_tests)

-- a next page that is a head of a chain is a bad one
pub next_low : (x S P b d : ℕ) → x ≢ 0 → x ≤ S → true ≡ (not (eqb x 0) && (leb x S || leb P x || not (eqb d b)))
next_low x S P b d some e = grind (arith, nat_tests)

-- a next page behind the last page is a bad one
pub next_high : (x S P b d : ℕ) → x ≢ 0 → P ≤ x → true ≡ (not (eqb x 0) && (leb x S || leb P x || not (eqb d b)))
next_high x S P b d some e = grind (arith, nat_tests)

-- any other next page is a bad one exactly where it is of another bucket
pub next_other : (x S P b d : ℕ) → x ≢ 0 → S < x → x < P →
    not (eqb d b) ≡ (not (eqb x 0) && (leb x S || leb P x || not (eqb d b)))
next_other x S P b d some low high = grind (arith, nat_tests)

-- where a page leads, by the header and the head that were read
pub next_is : (bytes : List ℕ) (header : Header) (root : Extent) → IsOpenedImage bytes header root →
    (number : ℕ) (head : PageHead) (r : Bool) → head ≡ (view_of bytes).head number →
    r ≡
    (not (eqb head.next 0)
    && (leb head.next header.buckets || leb header.pages head.next
    || not (eqb (bucket (view_of bytes) head.next) head.bucket))) →
    r ≡ bad_next (links (view_of bytes)) number
unfolding bad_next view_of
next_is bytes header root o number head r h e =
    e
    ∙ ap
    (λ (x : Header).
    not (eqb head.next 0)
    && (leb head.next x.buckets || leb x.pages head.next
    || not (eqb (bucket (view_of bytes) head.next) head.bucket))) o.fields
    ∙ ap
    (λ (x : PageHead).
    not (eqb x.next 0)
    && (leb x.next (header_of bytes).buckets || leb (header_of bytes).pages x.next
    || not (eqb (bucket (view_of bytes) x.next) x.bucket))) h

-- ---- a page's first fault

-- the first fault of a page by its head is the first that it has by itself
pub fault_by_head : (v : View) (i p : ℕ) (f : ImageFault) → Some f ≡ first_fault_of (head_rows_at v p) →
    own_fault v i p ≡ Some f
unfolding own_fault
fault_by_head v i p f e = first_before (head_rows_at v p) (rest_rows_at v i p) f (sym e)

-- where a page has no fault by its head, its first is that of its next page, slots and records
pub fault_behind_head : (v : View) (i p : ℕ) → None ≡ first_fault_of (head_rows_at v p) →
    own_fault v i p ≡ first_fault_of (rest_rows_at v i p)
unfolding own_fault
fault_behind_head v i p e = first_behind (head_rows_at v p) (rest_rows_at v i p) (sym e)

-- where the next page is a bad one, that is the first fault behind the head
pub rest_next : (v : View) (i p : ℕ) → true ≡ bad_next (links v) p → first_fault_of (rest_rows_at v i p) ≡ Some (Next p)
unfolding first_fault_of
rest_next v i p e = rw (← e) refl

-- the rows of slots and records
abbrev pub slot_rows : Bool → Bool → ℕ → Option ImageFault
slot_rows bad strange p = first_fault_of (where_so bad (Slot p) ∷ where_so strange (Misfit p) ∷ [])

-- where it isn't, the first fault behind the head is that of slots and records
pub rest_slots : (v : View) (i p : ℕ) → false ≡ bad_next (links v) p →
    first_fault_of (rest_rows_at v i p) ≡ slot_rows (has_bad_slot v p) (has_stranger v i p) p
unfolding first_fault_of
rest_slots v i p e = rw (← e) refl

-- a key is at home, by the root, in the bucket that the View gives it
pub home_is : (bytes : List ℕ) (header : Header) (root : Extent) → IsOpenedImage bytes header root →
    (key : List ℕ) (home : ℕ) → home ≡ home_of (view_of bytes) key → is_home root home key ≡ true
unfolding home_of
home_is bytes header root o key home e =
    eq-eqb (address root.initial root.buckets (code_of key)) home
    (ap (λ (x : Extent). address x.initial x.buckets (code_of key)) (root_is bytes header root o) ∙ sym e)

-- a key's address by the root is the bucket that the View gives it
pub home_found : (bytes : List ℕ) (header : Header) (root : Extent) → IsOpenedImage bytes header root → (key : List ℕ) →
    address root.initial root.buckets (code_of key) ≡ home_of (view_of bytes) key
unfolding home_of
home_found bytes header root o key =
    ap (λ (x : Extent). address x.initial x.buckets (code_of key)) (root_is bytes header root o)

-- the slots that were scanned are those of the View
pub slots_are : (bytes : List ℕ) (header : Header) (root : Extent) → IsOpenedImage bytes header root →
    (home number : ℕ) (f : Format) (pg : List ℕ) → f ≡ format_of (version_of bytes) → pg ≡ page bytes number →
    slot_rows (is_some (bad_slot f pg)) (list_any (λ (r : Pair). not (is_home root home r.key)) (pairs_of f pg))
    number ≡ slot_rows (has_bad_slot (view_of bytes) number) (has_stranger (view_of bytes) home number) number
unfolding view_of has_stranger
slots_are bytes header root o home number f pg fe pe =
    let rest : Extent → Format → List ℕ → Option ImageFault =
    λ x g b.
    slot_rows (is_some (bad_slot g b)) (list_any (λ (r : Pair). not (is_home x home r.key)) (pairs_of g b))
    number in
    ap (λ x. rest x f pg) (root_is bytes header root o)
    ∙ ap (λ g. rest (record { initial = initial (view_of bytes); buckets = buckets (view_of bytes) }) g pg) fe
    ∙ ap
    (λ b.
    rest (record { initial = initial (view_of bytes); buckets = buckets (view_of bytes) })
    (format_of (version_of bytes)) b) pe

-- the slot of a key in a page that was cut out is its slot in that page of the bytes
pub slot_is : (bytes key : List ℕ) (number : ℕ) (f : Format) (pg : List ℕ) (place : Option ℕ) →
    f ≡ format_of (version_of bytes) → pg ≡ page bytes number → IsSlotOf f pg key (pairs_of f pg) place →
    IsSlotOf (format_of (version_of bytes)) (page bytes number) key ((view_of bytes).records number) place
unfolding view_of
slot_is bytes key number f pg place fe pe h =
    subst (λ b. IsSlotOf (format_of (version_of bytes)) b key (pairs_of (format_of (version_of bytes)) b) place) pe
    (subst (λ g. IsSlotOf g pg key (pairs_of g pg) place) fe h)

-- the format of the header's version is that of the version of the bytes
pub format_is : (bytes : List ℕ) (header : Header) (root : Extent) → IsOpenedImage bytes header root → (f : Format) →
    f ≡ format_of header.version → f ≡ format_of (version_of bytes)
format_is bytes header root o f e = e ∙ ap format_of (version_is bytes header root o)

-- the bytes of a version's page are as many as its format says
pub page_size_is : (v : Version) (f : Format) (n : ℕ) → n ≡ page_bytes v → f ≡ format_of v → n ≡ page_size f
unfolding page_bytes
page_size_is v f n e g = e ∙ ap page_size (sym g)

-- a page has no more records than slots
pub used_fits : (bytes : List ℕ) (header : Header) (root : Extent) → IsOpenedImage bytes header root →
    (number : ℕ) (f : Format) → None ≡ first_fault_of (head_rows_at (view_of bytes) number) →
    f ≡ format_of header.version → ((view_of bytes).head number).used ≤ f.slots
unfolding bad_used view_of
used_fits bytes header root o number f e g =
    let v = view_of bytes in
    let good = head_good v number (sym e) in
    let few = ((used_rule (capacity v) (v.head number).used (v.head number).next (v.head number).kind).0 good.used).0 in
    let cap : header.config.capacity ≡ capacity v = ap (λ (h : Header). h.config.capacity) o.fields in
    let slots : f.slots ≡ (format_of header.version).slots = ap (λ (x : Format). x.slots) g in
    omega (arith, few, cap, slots, o.in_range.room)

-- ---- from page to page

-- where a page has no fault by itself, a next page that it names is an overflow page of the file and of its bucket
pub next_within : (v : View) (i p : ℕ) → own_fault v i p ≡ None → next v p ≢ 0 →
    (buckets v < next v p) × (next v p < page_count v) × (bucket v (next v p) ≡ bucket v p)
unfolding bad_next own_fault
next_within v i p e some =
    let rows = (none_first (head_rows_at v p ++ rest_rows_at v i p)).0 e in
    let good : bad_next (links v) p ≡ false = so_none _ _ rows.1.1.1.1.0 in
    let x = next v p in (
      above x (buckets v) (page_count v) (bucket v p) (bucket v x) good some,
      below x (buckets v) (page_count v) (bucket v p) (bucket v x) good some,
      same x (buckets v) (page_count v) (bucket v p) (bucket v x) good some,
    )
  where
    above : (x S P b d : ℕ) → (not (eqb x 0) && (leb x S || leb P x || not (eqb d b))) ≡ false → x ≢ 0 → S < x
    above x S P b d e some = grind (arith, nat_tests)

    below : (x S P b d : ℕ) → (not (eqb x 0) && (leb x S || leb P x || not (eqb d b))) ≡ false → x ≢ 0 → x < P
    below x S P b d e some = grind (arith, nat_tests)

    same : (x S P b d : ℕ) → (not (eqb x 0) && (leb x S || leb P x || not (eqb d b))) ≡ false → x ≢ 0 → d ≡ b
    same x S P b d e some = grind (arith, nat_tests)

-- behind the last page of a chain, nothing is found
pub found_end : (v : View) (key : List ℕ) (n : ℕ) → found_from v key n 0 ≡ Ok None
unfolding found_from
found_end v key zero = refl
found_end v key (suc n) = refl

-- where no more pages may come, a page that follows is answered as one that comes again
pub found_twice : (v : View) (key : List ℕ) (p : ℕ) → p ≢ 0 → found_from v key 0 p ≡ Err (Twice p)
unfolding found_from
found_twice v key p some = rw (ne_eqb p 0 some) refl

-- what is found from a page on is its fault, or else the value in it, or else what is found from the next page on
pub found_more : (v : View) (key : List ℕ) (n m p : ℕ) → n ≡ suc m → p ≢ 0 →
    found_from v key n p ≡
    found_first (own_fault v (home_of v key) p) (value_in key (v.records p)) (found_from v key m (next v p))
unfolding found_from
found_more v key n m p e some = rw (e, ne_eqb p 0 some) refl

-- the pages so far have no fault and not the key
pub record IsOnItsWay (v : View) (key : List ℕ) (pages counter number : ℕ) : Type 0 where
  pub same : look_up v key ≡ found_from v key (pages - counter) number
  pub from : 1 ≤ number
  pub below : number < pages

module _ (v : View) (key : List ℕ) (pages counter number : ℕ) (h : IsOnItsWay v key pages counter number)
    (more : counter < pages) where
  -- a look-up on its way answers the page's fault, or else the value in it, or else what is found further on
  pub here : look_up v key ≡
      found_first (own_fault v (home_of v key) number) (value_in key (v.records number))
      (found_from v key (pages - (counter + 1)) (next v number))
  here =
      h.same
      ∙ found_more v key (pages - counter) (pages - (counter + 1)) number (omega arith) (λ z. omega (arith, h.from))

  -- a fault that the page has by itself is what the look-up answers
  pub step_fault : (f : ImageFault) → own_fault v (home_of v key) number ≡ Some f → look_up v key ≡ Err f
  step_fault f e =
      here
      ∙ ap
      (λ o.
      found_first o (value_in key (v.records number))
      (found_from v key (pages - (counter + 1)) (next v number))) e

  -- where the page has none, a value that is found in it is what the look-up answers
  pub step_value : (value : List ℕ) → own_fault v (home_of v key) number ≡ None →
      value_in key (v.records number) ≡ Some value → look_up v key ≡ Ok (Some value)
  step_value value e g = here ∙ rw (e, g) refl

  -- where the page has neither a fault nor the key, the look-up answers what is found from the next page on
  pub step_next : own_fault v (home_of v key) number ≡ None → value_in key (v.records number) ≡ None →
      look_up v key ≡ found_from v key (pages - (counter + 1)) (next v number)
  step_next e g = here ∙ rw (e, g) refl

module _ (bytes : List ℕ) (header : Header) (root : Extent) (o : IsOpenedImage bytes header root) (key : List ℕ) where
  -- a look-up begins its way at the primary page of the key's bucket
  pub begins : (home : ℕ) → home ≡ home_of (view_of bytes) key → home < root.buckets →
      IsOnItsWay (view_of bytes) key header.pages 0 (1 + home)
  unfolding look_up
  begins home e low =
      let all : page_count (view_of bytes) ≡ header.pages - 0 = sym (pages_is bytes header root o) ∙ omega arith in
      let size : root.buckets ≡ header.buckets = ap (λ (x : Extent). x.buckets) o.extent in
      record {
        same =
            ap (λ n. found_from (view_of bytes) key n (1 + home_of (view_of bytes) key)) all
            ∙ ap (λ h. found_from (view_of bytes) key (header.pages - 0) (1 + h)) (sym e);
        from = omega arith;
        below = omega (arith, size, o.in_range.enough);
      }

  module _ (counter number : ℕ) (h : IsOnItsWay (view_of bytes) key header.pages counter number)
      (more : counter < header.pages) where
    -- in a page without a fault, the slot that has the key is the place of the value that is found
    pub place_is : (k : ℕ) → own_fault (view_of bytes) (home_of (view_of bytes) key) number ≡ None →
        IsSlotOf (format_of (version_of bytes)) (page bytes number) key ((view_of bytes).records number) (Some k) →
        IsPlaceOf bytes key number k
    unfolding view_of
    place_is k none at = record {
      from = h.from;
      below = subst (λ n. number < n) (pages_is bytes header root o) h.below;
      slot = at.0;
      short = at.1;
      found = step_value (view_of bytes) key header.pages counter number h more (slot_value bytes number k) none at.2;
    }

    -- where a page has neither a fault nor the key, the look-up is on its way at the page that follows
    pub goes_on : (following : ℕ) → own_fault (view_of bytes) (home_of (view_of bytes) key) number ≡ None →
        value_in key ((view_of bytes).records number) ≡ None → following ≡ next (view_of bytes) number → following ≢ 0 →
        IsOnItsWay (view_of bytes) key header.pages (counter + 1) following
    goes_on following none absent is some =
        let v = view_of bytes in
        let there = next_within v (home_of v key) number none (λ z. some (is ∙ z)) in
        record {
          same =
              step_next v key header.pages counter number h more none absent
              ∙ ap (found_from v key (header.pages - (counter + 1))) (sym is);
          from = omega arith;
          below = omega (arith, there.1, is, pages_is bytes header root o);
        }
