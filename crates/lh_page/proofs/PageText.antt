-- A page's table as one row of bytes.
use Rattle.std.proofs.Common.{◌≡◌, ℕ, zero, suc, ◌+◌, ◌*◌, ◌<◌, ◌≤◌, List, ◌++◌, length, take, drop, get_or, Some, refl}
use Rattle.std.proofs.Common.{sym, ap, ◌∙◌, inl, inr, arith, zero-add}
use Rattle.std.specs.List.{All, flat_map, range_with_len, slice_get}
use Rattle.std.proofs.lemmas.Bool.{cases_lt}
use Rattle.std.proofs.lemmas.List.{take-append-drop, drop-drop, drop_at, drop_all, take_at, length-append}
use Rattle.std.proofs.lemmas.List.{length-replicate}
use Rattle.std.proofs.lemmas.Option.{slice_get-get_or, slice_get_past}
use Rattle.lh_page.specs.declared.format.Format.{Format}
use Rattle.lh_page.specs.declared.page.Page.{Page}
use Rattle.lh_page.specs.declared.pair.Pair.{Pair}
use Rattle.lh_page.specs.Format.{slot_size, slot_start, FitsSlot}
use Rattle.lh_page.specs.PageLaws.{PageTextLaw}
use Rattle.lh_page.specs.PageTable.{slot, slot_text, head_text, page_text, IsPage, IsWritable}
use Rattle.lh_page.specs.Records.{no_pair}
use Rattle.lh_page.specs.Rows.{padded, field}
use Rattle.lh_page.proofs.Fields.{field-take, join}
use Rattle.lh_page.proofs.Zeros.{length-padded}

-- the slots from the a-th on are what is left
slots_left : (f : Format) (bytes : List ℕ) (n a : ℕ) → slot_start f (a + n) ≡ length bytes →
    drop (slot_start f a) bytes ≡ flat_map (slot f bytes) (range_with_len a n)
slots_left f bytes zero a whole =
    drop_all (slot_start f a) bytes
    (let e : a + 0 ≡ a = omega arith in
    let h : slot_start f a ≡ length bytes = ap (slot_start f) (sym e) ∙ whole in
    omega arith)
slots_left f bytes (suc n) a whole =
    let next : slot_start f a + slot_size f ≡ slot_start f (a + 1) = omega arith in
    let more : a + 1 + n ≡ a + suc n = omega arith in
    sym (take-append-drop (slot_size f) (drop (slot_start f a) bytes))
    ∙ ap (λ rest. slot f bytes a ++ rest)
    (drop-drop (slot_size f) (slot_start f a) bytes ∙ ap (λ k. drop k bytes) next
    ∙ slots_left f bytes n (a + 1) (ap (slot_start f) more ∙ whole))

same_pieces : (f g : ℕ → List ℕ) (n a : ℕ) → ((i : ℕ) → a ≤ i → i < a + n → f i ≡ g i) →
    flat_map f (range_with_len a n) ≡ flat_map g (range_with_len a n)
same_pieces f g zero a same = refl
same_pieces f g (suc n) a same =
    ap (λ part. part ++ flat_map f (range_with_len (a + 1) n)) (same a (omega arith) (omega arith))
    ∙ ap (λ rest. g a ++ rest) (same_pieces f g n (a + 1) (λ i low high. same i (omega arith) (omega arith)))

-- ---- pieces of one size

module _ (piece : ℕ → List ℕ) (size : ℕ) (sized : (i : ℕ) → length (piece i) ≡ size) where
  length-pieces : (n a : ℕ) → length (flat_map piece (range_with_len a n)) ≡ n * size
  length-pieces zero a = omega arith
  length-pieces (suc n) a =
      omega (
        arith,
        length-append (piece a) (flat_map piece (range_with_len (a + 1) n)),
        sized a,
        length-pieces n (a + 1),
      )

  piece_at : (n a i : ℕ) → i < n → take size (drop (i * size) (flat_map piece (range_with_len a n))) ≡ piece (a + i)
  piece_at zero a i low = absurd (omega arith)
  piece_at (suc n) a zero low =
      let none : 0 * size ≡ 0 = omega arith in
      rw none
      (take_at (piece a) (flat_map piece (range_with_len (a + 1) n)) size (sized a)
      ∙ ap piece (let e : a ≡ a + 0 = omega arith in e))
  piece_at (suc n) a (suc i) low =
      let rest = flat_map piece (range_with_len (a + 1) n) in
      let skip : suc i * size ≡ size + i * size = omega arith in
      let next : a + 1 + i ≡ a + suc i = omega arith in
      ap (λ k. take size (drop k (piece a ++ rest))) skip
      ∙ ap (take size)
      (sym (drop-drop (i * size) size (piece a ++ rest))
      ∙ ap (drop (i * size)) (drop_at (piece a) rest size (sized a)))
      ∙ piece_at n (a + 1) i (omega arith) ∙ ap piece next

length-slot_text : (f : Format) (pairs : List Pair) → All (FitsSlot f) pairs → (i : ℕ) →
    length (slot_text f (slice_get pairs i)) ≡ slot_size f
length-slot_text f pairs fit i = elim (cases_lt i (length pairs)) [
  | inl used ↦
      let p = get_or pairs i no_pair in
      let r = fit i no_pair used in
      ap (λ o. length (slot_text f o)) (slice_get-get_or pairs i no_pair used)
      ∙ (let e : length (slot_text f (Some p)) ≡ slot_size f =
      omega (
        arith,
        length-append (padded f.key p.key) (padded f.value p.value),
        length-padded f.key p.key r.key,
        length-padded f.value p.value r.value,
      ) in
      e)
  | inr unused ↦
      ap (λ o. length (slot_text f o)) (slice_get_past pairs i unused) ∙ length-replicate {A = ℕ} (slot_size f) 0
]

module _ (f : Format) (page : Page) where
  module _ (bytes : List ℕ) (h : IsPage f bytes page) where
    head_from : take 16 bytes ≡ head_text page
    head_from =
        join bytes 0 1 15 _ _ h.kind
        (join bytes 1 1 14 _ _ h.used (join bytes 2 1 13 _ _ h.level (join bytes 3 1 12 _ _ h.reserved
        (join bytes 4 4 8 _ _ h.bucket (join bytes 8 4 4 _ _ h.next h.padding)))))

    text_from : bytes ≡ page_text f page
    unfolding page_text
    text_from =
        let start : slot_start f 0 ≡ 16 = omega arith in
        sym (take-append-drop 16 bytes) ∙ ap (λ head. head ++ drop 16 bytes) head_from
        ∙ ap (λ k. head_text page ++ drop k bytes) (sym start)
        ∙ ap (λ rest. head_text page ++ rest)
        (slots_left f bytes f.slots 0 (ap (slot_start f) (zero-add f.slots) ∙ sym h.size)
        ∙ same_pieces (slot f bytes) (λ i. slot_text f (slice_get page.pairs i)) f.slots 0
        (λ i low high. h.slots i (omega arith)))

module _ (f : Format) (page : Page) (w : IsWritable f page) where
  sized : (i : ℕ) → length (slot_text f (slice_get page.pairs i)) ≡ slot_size f
  sized i = length-slot_text f page.pairs w.pairs.records i

  row : (rest : List ℕ) (offset n : ℕ) → offset + n ≤ 16 →
      field (head_text page ++ rest) offset n ≡ field (head_text page) offset n
  row rest offset n within =
      sym (field-take offset n 16 (head_text page ++ rest) within)
      ∙ ap (λ head. field head offset n) (take_at (head_text page) rest 16 refl)

  table : IsPage f (page_text f page) page
  unfolding page_text
  table =
      let piece : ℕ → List ℕ = λ i. slot_text f (slice_get page.pairs i) in
      let rest = flat_map piece (range_with_len 0 f.slots) in
      record {
        size = omega (arith, length-append (head_text page) rest, length-pieces piece (slot_size f) sized f.slots 0);
        kind = row rest 0 1 (omega arith);
        used = row rest 1 1 (omega arith);
        level = row rest 2 1 (omega arith);
        reserved = row rest 3 1 (omega arith);
        bucket = row rest 4 4 (omega arith);
        next = row rest 8 4 (omega arith);
        padding = row rest 12 4 (omega arith);
        slots = λ i low.
            ap (take (slot_size f))
            (sym (drop-drop (i * slot_size f) 16 (head_text page ++ rest))
            ∙ ap (drop (i * slot_size f)) (drop_at (head_text page) rest 16 refl))
            ∙ piece_at piece (slot_size f) sized f.slots 0 i low ∙ ap piece (zero-add i);
      }

-- bytes have the table of a page that can be written exactly where they are its text
pub page_text_law : PageTextLaw
page_text_law f bytes page writable = (text_from f page bytes, λ e. rw e (table f page writable))
