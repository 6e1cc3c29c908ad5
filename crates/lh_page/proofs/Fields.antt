-- Fields of a row of bytes, side by side and after a part was written, and where the slots lie.
use Rattle.std.proofs.Common.{◌≡◌, ℕ, ◌+◌, ◌-◌, ◌<◌, ◌≤◌, List, ◌++◌, rules, length, take, drop, sym, ap, ◌∙◌, arith}
use Rattle.std.proofs.Math.Nat.{mul-le-mul_right}
use Rattle.std.proofs.lemmas.List.{same_lists, places, drop-drop, drop-take, take-take, take_at, drop_at}
use Rattle.std.proofs.lemmas.List.{length-take-le, length-append, length-drop}
use Rattle.std.proofs.lemmas.Slice.{take-put_mid_below, drop-put_mid}
use borrow.Rule.Slice.PartMut.{put_mid, post_of}
use Rattle.lh_page.specs.declared.format.Format.{Format}
use Rattle.lh_page.specs.Format.{slot_size, slot_start}
use Rattle.lh_page.specs.Rows.{field}

-- a front of some bytes is a shorter front, and then the bytes that follow up to its end
pub take-add : (m n : ℕ) (bytes : List ℕ) → take (m + n) bytes ≡ take m bytes ++ take n (drop m bytes)
take-add m n bytes = same_lists _ _ (search (rules, places)) (λ k d h. grind (arith, places))

-- a field is two fields, one right behind the other
pub field-add : (bytes : List ℕ) (offset m n : ℕ) →
    field bytes offset (m + n) ≡ field bytes offset m ++ field bytes (offset + m) n
field-add bytes offset m n =
    take-add m n (drop offset bytes) ∙ ap (λ rest. field bytes offset m ++ take n rest) (drop-drop m offset bytes)

-- two fields side by side make one, with the bytes of the first and then those of the second
pub join : (bytes : List ℕ) (offset m n : ℕ) (a b : List ℕ) → field bytes offset m ≡ a →
    field bytes (offset + m) n ≡ b → field bytes offset (m + n) ≡ a ++ b
join bytes offset m n a b e f =
    field-add bytes offset m n ∙ ap (λ part. part ++ field bytes (offset + m) n) e ∙ ap (λ part. a ++ part) f

-- a field that lies within a front
pub field-take : (offset size n : ℕ) (bytes : List ℕ) → offset + size ≤ n →
    field (take n bytes) offset size ≡ field bytes offset size
field-take offset size n bytes within =
    let rest : offset + (n - offset) ≡ n = omega arith in
    ap (λ m. take size (drop offset (take m bytes))) (sym rest) ∙ ap (take size) (drop-take offset (n - offset) bytes)
    ∙ take-take size (n - offset) (drop offset bytes) (omega arith)

-- a field that was written
pub field-put_same : (a k n : ℕ) (bytes part : List ℕ) → a ≤ length bytes → length part ≡ n →
    field (put_mid a k bytes part) a n ≡ part
field-put_same a k n bytes part within whole =
    ap (take n) (drop_at (take a bytes) (part ++ post_of a k bytes) a (length-take-le a bytes within))
    ∙ take_at part (post_of a k bytes) n whole

-- a field before what was written, and one behind it
pub field-put_before : (a k offset size : ℕ) (bytes part : List ℕ) → a ≤ length bytes → offset + size ≤ a →
    field (put_mid a k bytes part) offset size ≡ field bytes offset size
field-put_before a k offset size bytes part within before =
    sym (field-take offset size a (put_mid a k bytes part) before)
    ∙ ap (λ front. field front offset size) (take-put_mid_below a k bytes part a (omega arith) within)
    ∙ field-take offset size a bytes before

-- a field behind what was written is as it was
pub field-put_behind : (a k offset size : ℕ) (bytes part : List ℕ) → a ≤ length bytes → length part ≡ k →
    a + k ≤ offset → field (put_mid a k bytes part) offset size ≡ field bytes offset size
field-put_behind a k offset size bytes part within whole behind =
    ap (take size) (drop-put_mid a k bytes part offset behind within whole)

-- bytes in which a part was written are as many as before
pub length-put : (a k : ℕ) (bytes part : List ℕ) → a + k ≤ length bytes → length part ≡ k →
    length (put_mid a k bytes part) ≡ length bytes
length-put a k bytes part within whole =
    omega (
      arith,
      length-append (take a bytes) (part ++ post_of a k bytes),
      length-append part (post_of a k bytes),
      length-take-le a bytes (omega arith),
      length-drop k (drop a bytes),
      length-drop a bytes,
    )

-- each slot ends before a later one begins, and within its page
pub slots_apart : (f : Format) (i j : ℕ) → i < j → slot_start f i + slot_size f ≤ slot_start f j
slots_apart f i j less =
    let next : i + 1 ≤ j = omega arith in
    omega (arith, mul-le-mul_right (slot_size f) next)
