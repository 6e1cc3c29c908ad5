-- The bytes of one slot, written and read.
use Rattle.std.proofs.Common.{◌≡◌, ◌≢◌, ℕ, ◌+◌, ◌-◌, ◌≤◌, true, false, List, [], ◌∷◌, ◌++◌, length, take, drop, set}
use Rattle.std.proofs.Common.{Some, refl, sym, ap, ◌∙◌, arith, length-take-le}
use Rattle.std.proofs.lemmas.Bool.{eqb-false, ne_eqb, ltb-false, le-ltb, or_parts, or_from, not-false, not_from_true}
use Rattle.std.proofs.lemmas.List.{append_assoc, drop-drop, drop_at, take_at, take_all, length-drop, length-take}
use Rattle.std.proofs.lemmas.List.{length-replicate, take-append-drop, replicate-append-replicate}
use borrow.Rule.Slice.PartMut.{put_mid}
use Rattle.lh_page.specs.declared.format.Format.{Format}
use Rattle.lh_page.specs.declared.pair.Pair.{Pair}
use Rattle.lh_page.specs.Format.{slot_size, FitsSlot}
use Rattle.lh_page.specs.PageFields.{all_zero, key_length, value_length, pair_of, is_bad_record}
use Rattle.lh_page.specs.PageTable.{slot_text}
use Rattle.lh_page.specs.Rows.{zeros, padded, field}
use Rattle.lh_page.proofs.Fields.{take-add}
use Rattle.lh_page.proofs.Zeros.{all_zero-zeros, zeros_of_length, length-padded, padded-add, put_front}

-- a part and zeros behind it are a padded part
padded-field : (k n : ℕ) (bytes : List ℕ) → k ≤ n → n ≤ length bytes → all_zero (take (n - k) (drop k bytes)) ≡ true →
    padded n (take k bytes) ≡ take n bytes
padded-field k n bytes le within clear =
    let behind : length (take (n - k) (drop k bytes)) ≡ n - k =
    omega (arith, length-take (n - k) (drop k bytes), length-drop k bytes) in
    let whole : k + (n - k) ≡ n = omega arith in
    ap (λ m. take k bytes ++ zeros (n - m)) (length-take-le k bytes (omega arith))
    ∙ ap (λ rest. take k bytes ++ rest) (sym (zeros_of_length (take (n - k) (drop k bytes)) (n - k) behind clear))
    ∙ sym (take-add k (n - k) bytes) ∙ ap (λ m. take m bytes) whole

-- ---- what a slot without a fault has

pub record IsGood (f : Format) (s : List ℕ) : Type 0 where
  pub some : 1 ≤ key_length s
  pub key : key_length s ≤ f.key
  pub value : value_length s ≤ f.value
  pub behind_key : all_zero (field s (2 + key_length s) (f.key - key_length s)) ≡ true
  pub behind_value : all_zero (field s (2 + f.key + value_length s) (f.value - value_length s)) ≡ true

good_parts : (f : Format) (s : List ℕ) → is_bad_record f s ≡ false → IsGood f s
unfolding is_bad_record
good_parts f s good =
    let p = or_parts _ _ good in
    let q = or_parts _ _ p.0 in
    let r = or_parts _ _ q.0 in
    let t = or_parts _ _ r.0 in
    let n : key_length s ≢ 0 = eqb-false (key_length s) 0 t.0 in
    record {
      some = omega (arith, n);
      key = ltb-false _ _ t.1;
      value = ltb-false _ _ r.1;
      behind_key = not-false _ q.1;
      behind_value = not-false _ p.1;
    }

-- a slot with a key, lengths that fit, and zeros behind the key and the value, has no fault
pub good_from : (f : Format) (s : List ℕ) → IsGood f s → is_bad_record f s ≡ false
unfolding is_bad_record
good_from f s h =
    or_from _ _
    (or_from _ _
    (or_from _ _ (or_from _ _ (ne_eqb _ _ (λ e. omega (arith, h.some, e))) (le-ltb _ _ h.key))
    (le-ltb _ _ h.value))
    (not_from_true _ h.behind_key)) (not_from_true _ h.behind_value)

-- the record in a slot without a fault fits a slot
pub fits_from_good : (f : Format) (s : List ℕ) → length s ≡ slot_size f → is_bad_record f s ≡ false →
    FitsSlot f (pair_of f s)
fits_from_good f s long good =
    let h = good_parts f s good in
    let key : length (field s 2 (key_length s)) ≡ key_length s =
    length-take-le (key_length s) (drop 2 s) (omega (arith, h.key, length-drop 2 s)) in
    let value : length (field s (2 + f.key) (value_length s)) ≡ value_length s =
    length-take-le (value_length s) (drop (2 + f.key) s) (omega (arith, h.value, length-drop (2 + f.key) s)) in
    record { some = omega (arith, h.some, key); key = omega (arith, h.key, key); value = omega (arith, h.value, value) }

-- a slot without a fault is the text of its record
pub text_from_good : (f : Format) (s : List ℕ) → length s ≡ slot_size f → is_bad_record f s ≡ false →
    s ≡ slot_text f (Some (pair_of f s))
text_from_good f [] long good = absurd (omega (arith, long))
text_from_good f (k ∷ []) long good = absurd (omega (arith, long))
text_from_good f (k ∷ v ∷ rest) long good =
    let s = k ∷ v ∷ rest in
    let h = good_parts f s good in
    let behind = drop (2 + f.key) s in
    let left : length rest ≡ f.key + f.value = omega (arith, long) in
    let size : length behind ≡ f.value = omega (arith, length-drop (2 + f.key) s) in
    let key : padded f.key (take k rest) ≡ take f.key rest =
    padded-field k f.key rest h.key (omega arith)
    (ap (λ xs. all_zero (take (f.key - k) xs)) (drop-drop k 2 s) ∙ h.behind_key) in
    let value : padded f.value (take v behind) ≡ behind =
    padded-field v f.value behind h.value (omega arith)
    (ap (λ xs. all_zero (take (f.value - v) xs)) (drop-drop v (2 + f.key) s) ∙ h.behind_value)
    ∙ take_all f.value behind (omega arith) in
    let parts = padded f.key (take k rest) ++ padded f.value (take v behind) in
    let whole : rest ≡ parts =
    sym (take-append-drop f.key rest) ∙ ap (λ xs. take f.key rest ++ xs) (drop-drop f.key 2 s ∙ sym value)
    ∙ ap (λ xs. xs ++ padded f.value (take v behind)) (sym key) in
    ap (λ xs. k ∷ v ∷ xs) whole ∙ ap (λ m. m ∷ v ∷ parts) (sym (length-take-le k rest (omega (arith, h.key))))
    ∙ ap (λ m. length (take k rest) ∷ m ∷ parts) (sym (length-take-le v behind (omega (arith, h.value))))

-- ---- what is read is what was written

module _ (f : Format) (pair : Pair) (h : FitsSlot f pair) where
  values-text : drop (2 + f.key) (slot_text f (Some pair)) ≡ padded f.value pair.value
  values-text =
      sym (drop-drop f.key 2 (slot_text f (Some pair)))
      ∙ drop_at (padded f.key pair.key) (padded f.value pair.value) f.key (length-padded f.key pair.key h.key)

  -- the record read from a slot is the one that was written there
  pub pair_of-text : pair_of f (slot_text f (Some pair)) ≡ pair
  pair_of-text i = record {
    key =
        (ap (take (length pair.key))
        (append_assoc pair.key (zeros (f.key - length pair.key)) (padded f.value pair.value))
        ∙ take_at pair.key (zeros (f.key - length pair.key) ++ padded f.value pair.value) (length pair.key) refl) i;
    value =
        (ap (take (length pair.value)) values-text
        ∙ take_at pair.value (zeros (f.value - length pair.value)) (length pair.value) refl) i;
  }

  behind-key : field (slot_text f (Some pair)) (2 + length pair.key) (f.key - length pair.key) ≡
      zeros (f.key - length pair.key)
  behind-key =
      let m = length pair.key in
      let z = zeros (f.key - m) in
      ap (take (f.key - m))
      (sym (drop-drop m 2 (slot_text f (Some pair)))
      ∙ ap (drop m) (append_assoc pair.key z (padded f.value pair.value))
      ∙ drop_at pair.key (z ++ padded f.value pair.value) m refl)
      ∙ take_at z (padded f.value pair.value) (f.key - m) (length-replicate {A = ℕ} (f.key - m) 0)

  behind-value : field (slot_text f (Some pair)) (2 + f.key + length pair.value) (f.value - length pair.value) ≡
      zeros (f.value - length pair.value)
  behind-value =
      let m = length pair.value in
      let z = zeros (f.value - m) in
      ap (take (f.value - m))
      (sym (drop-drop m (2 + f.key) (slot_text f (Some pair))) ∙ ap (drop m) values-text
      ∙ drop_at pair.value z m refl)
      ∙ take_all (f.value - m) z (omega (arith, length-replicate {A = ℕ} (f.value - m) 0))

  -- a slot in which a record that fits was written has no fault
  pub good_text : is_bad_record f (slot_text f (Some pair)) ≡ false
  good_text = good_from f (slot_text f (Some pair)) (record {
    some = h.some;
    key = h.key;
    value = h.value;
    behind_key = ap all_zero behind-key ∙ all_zero-zeros (f.key - length pair.key);
    behind_value = ap all_zero behind-value ∙ all_zero-zeros (f.value - length pair.value);
  })

-- ---- writing over zeros

-- two bytes and two parts in a slot of zeros
pub put_parts : (xs ks vs : List ℕ) (m n i j : ℕ) → xs ≡ zeros (2 + m + n) → length ks ≤ m → length vs ≤ n →
    i ≡ length ks → j ≡ length vs →
    put_mid (2 + m) j (put_mid 2 i (set (set xs 0 (length ks)) 1 (length vs)) ks) vs ≡
    length ks ∷ length vs ∷ padded m ks ++ padded n vs
put_parts xs ks vs m n i j blank key value same is =
    let lengths = length ks ∷ length vs ∷ [] in
    let more : 2 + m + n ≡ 2 + (m + n) = omega arith in
    let all : xs ≡ 0 ∷ 0 ∷ zeros (m + n) = blank ∙ ap zeros more ∙ sym (replicate-append-replicate 2 (m + n) 0) in
    let first : put_mid 2 i (set (set xs 0 (length ks)) 1 (length vs)) ks ≡
    (length ks ∷ length vs ∷ padded m ks) ++ zeros n =
    ap (λ ys. put_mid 2 i (set (set ys 0 (length ks)) 1 (length vs)) ks) all
    ∙ put_front lengths ks 2 (m + n) i (omega arith) same ∙ ap (λ ys. lengths ++ ys) (padded-add m n ks key) in
    ap (λ ys. put_mid (2 + m) j ys vs) first
    ∙ put_front (length ks ∷ length vs ∷ padded m ks) vs (2 + m) n j (omega (arith, length-padded m ks key)) is
