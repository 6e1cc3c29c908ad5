-- Writing a page slot by slot.
use Rattle.std.proofs.Common.{◌≡◌, ℕ, ◌+◌, ◌-◌, ◌*◌, ◌<◌, ◌≤◌, List, ◌++◌, length, take, drop, Some, refl, sym, ap, ◌∙◌}
use Rattle.std.proofs.Common.{inl, inr, arith}
use Rattle.std.specs.List.{slice_get}
use Rattle.std.proofs.lemmas.Bool.{cases_lt, cases_order}
use Rattle.std.proofs.lemmas.List.{take-replicate, drop-replicate, drop-drop, drop_at, length-append, length-replicate}
use Rattle.std.proofs.lemmas.Option.{slice_get_past}
use borrow.Rule.Slice.PartMut.{put_mid}
use Rattle.lh_page.specs.declared.format.Format.{Format}
use Rattle.lh_page.specs.declared.page.Page.{Page}
use Rattle.lh_page.specs.declared.pair.Pair.{Pair}
use Rattle.lh_page.specs.Format.{slot_size, slot_start, page_size}
use Rattle.lh_page.specs.PageTable.{slot, slot_text, head_text, IsPage, WritesSlot}
use Rattle.lh_page.specs.Rows.{zeros, field}
use Rattle.lh_page.proofs.Fields.{field-take, field-put_same, field-put_before, field-put_behind, length-put}
use Rattle.lh_page.proofs.Fields.{slots_apart}

-- one slot that was written
pub writes_slot : (f : Format) (old part : List ℕ) (place k : ℕ) (pair : Pair) → place < f.slots →
    length old ≡ page_size f → k ≡ slot_size f → length part ≡ k → part ≡ slot_text f (Some pair) →
    WritesSlot f old (put_mid (slot_start f place) k old part) place pair
writes_slot f old part place k pair low whole size long is =
    let within : slot_start f place + slot_size f ≤ page_size f = slots_apart f place f.slots low in
    record {
      size = length-put (slot_start f place) k old part (omega arith) (omega arith);
      written = field-put_same (slot_start f place) k (slot_size f) old part (omega arith) (omega arith) ∙ is;
      others = λ i low_i other. elim (cases_order i place) [
        | inl same ↦ absurd (other same)
        | inr (inl before) ↦
            field-put_before (slot_start f place) k (slot_start f i) (slot_size f) old part (omega arith)
            (slots_apart f i place before)
        | inr (inr behind) ↦
            field-put_behind (slot_start f place) k (slot_start f i) (slot_size f) old part (omega arith) (omega arith)
            (omega (arith, slots_apart f place i behind))
      ];
      head = field-put_before (slot_start f place) k 0 16 old part (omega arith) (omega arith);
    }

-- the head and the first n records are written, and the other slots are zero
pub record IsPartlyWritten (f : Format) (bytes : List ℕ) (page : Page) (n : ℕ) : Type 0 where
  pub size : length bytes ≡ page_size f
  pub head : field bytes 0 16 ≡ head_text page
  pub written : (i : ℕ) → i < f.slots → i < n → slot f bytes i ≡ slot_text f (slice_get page.pairs i)
  pub left : (i : ℕ) → i < f.slots → n ≤ i → slot f bytes i ≡ zeros (slot_size f)

slot_behind : (f : Format) (head : List ℕ) (i : ℕ) → length head ≡ 16 → i < f.slots →
    slot f (head ++ zeros (f.slots * slot_size f)) i ≡ zeros (slot_size f)
slot_behind f head i whole low =
    let all = f.slots * slot_size f in
    let before = i * slot_size f in
    ap (take (slot_size f))
    (sym (drop-drop before 16 (head ++ zeros all)) ∙ ap (drop before) (drop_at head (zeros all) 16 whole)
    ∙ drop-replicate before all 0)
    ∙ take-replicate (slot_size f) (all - before) 0 (omega (arith, slots_apart f i f.slots low))

-- a page of zeros with the head over its front has the head written, and no record yet
pub written_none : (f : Format) (empty part : List ℕ) (page : Page) → empty ≡ zeros (page_size f) →
    part ≡ head_text page → IsPartlyWritten f (part ++ drop 16 empty) page 0
written_none f empty part page none is =
    let all = f.slots * slot_size f in
    let left : page_size f - 16 ≡ all = omega arith in
    let rest : drop 16 empty ≡ zeros all =
    ap (drop 16) none ∙ drop-replicate {X = ℕ} 16 (page_size f) 0 ∙ ap zeros left in
    rw (is, rest) (record {
      size = omega (arith, length-append (head_text page) (zeros all), length-replicate {A = ℕ} all 0);
      head = refl;
      written = λ i low below. absurd (omega arith);
      left = λ i low past. slot_behind f (head_text page) i refl low;
    })

-- one record more was written, in the next slot
pub written_more : (f : Format) (old new : List ℕ) (page : Page) (pair : Pair) (n : ℕ) → n < f.slots →
    slice_get page.pairs n ≡ Some pair → IsPartlyWritten f old page n → WritesSlot f old new n pair →
    IsPartlyWritten f new page (n + 1)
written_more f old new page pair n low is h w = record {
  size = w.size ∙ h.size;
  head = w.head ∙ h.head;
  written = λ i within below. elim (cases_lt i n) [
    | inl before ↦ w.others i within (λ same. omega (arith, same)) ∙ h.written i within before
    | inr there ↦ let same : i ≡ n = omega arith in rw same (w.written ∙ ap (slot_text f) (sym is))
  ];
  left = λ i within past. w.others i within (λ same. omega (arith, same)) ∙ h.left i within (omega arith);
}

-- where all its records were written, the bytes are those of the page
pub written_all : (f : Format) (bytes : List ℕ) (page : Page) → IsPartlyWritten f bytes page (length page.pairs) →
    IsPage f bytes page
written_all f bytes page h = record {
  size = h.size;
  kind = field_of_head 0 1 (omega arith);
  used = field_of_head 1 1 (omega arith);
  level = field_of_head 2 1 (omega arith);
  reserved = field_of_head 3 1 (omega arith);
  bucket = field_of_head 4 4 (omega arith);
  next = field_of_head 8 4 (omega arith);
  padding = field_of_head 12 4 (omega arith);
  slots = λ i low. elim (cases_lt i (length page.pairs)) [
    | inl used ↦ h.written i low used
    | inr past ↦ h.left i low past ∙ ap (slot_text f) (sym (slice_get_past page.pairs i past))
  ];
} where
  field_of_head : (offset size : ℕ) → offset + size ≤ 16 → field bytes offset size ≡ field (head_text page) offset size
  field_of_head offset size within =
      sym (field-take offset size 16 bytes within) ∙ ap (λ head. field head offset size) h.head
