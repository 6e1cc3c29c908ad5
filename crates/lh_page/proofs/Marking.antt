-- The row of marks: after an append, a removal, a change of value.
use Rattle.std.proofs.Common.{◌≡◌, ◌≢◌, ℕ, ◌-◌, ◌<◌, List, [], ◌∷◌, ◌++◌, length, get_or, slice_index, set, sym, ap}
use Rattle.std.proofs.Common.{◌∙◌, inl, inr, arith}
use Rattle.std.specs.Int.{bit_at}
use Rattle.std.specs.List.{swap_remove}
use Rattle.std.proofs.lemmas.Bool.{cases_eq}
use Rattle.std.proofs.lemmas.List.{get_or_default, get_or-take, get_or-set_other, get_or-set_same, get_or_append_left}
use Rattle.std.proofs.lemmas.List.{length-take, length-set, length_push}
use Rattle.lh_page.specs.declared.pair.Pair.{Pair}
use Rattle.lh_page.specs.Mark.{mark_of}
use Rattle.lh_page.specs.Marks.{marked_room, IsMarked, IsMarkedAt}
use Rattle.lh_page.specs.Records.{no_pair, key_at}

-- the records that two lists share keep their marks, but for one place that is marked anew
marked_but : (old new : List ℕ) (before after : List Pair) (place : ℕ) → IsMarked old before →
    IsMarkedAt old new after place →
    ((i : ℕ) → i ≢ place → i < length after → (i < length before) × (key_at after i ≡ key_at before i)) →
    IsMarked new after
marked_but old new before after place h at same i low below = elim (cases_eq i place) [
  | inl here ↦ rw here (at.marked (rw here at low) (rw here at below))
  | inr there ↦ let s = same i there below in at.others i there ∙ h i low s.0 ∙ ap mark_of (sym s.1)
]

-- records keep their marks when one is appended and the mark at its place is set
pub marked_push : (old new : List ℕ) (pairs : List Pair) (p : Pair) (place : ℕ) → place ≡ length pairs →
    IsMarked old pairs → IsMarkedAt old new (pairs ++ p ∷ []) place → IsMarked new (pairs ++ p ∷ [])
marked_push old new pairs p place last h at = marked_but old new pairs (pairs ++ p ∷ []) place h at (λ i other below.
    let less : i < length pairs = omega (arith, length_push pairs p) in
    (less, ap (λ (q : Pair). q.key) (get_or_append_left pairs (p ∷ []) no_pair i less)))

-- records keep their marks when the last one moves into a hole and the mark there is set
pub marked_remove : (old new : List ℕ) (pairs : List Pair) (place : ℕ) (p : Pair) → place < length pairs →
    IsMarked old pairs → IsMarkedAt old new (swap_remove pairs place p) place → IsMarked new (swap_remove pairs place p)
marked_remove old new pairs place p within h at =
    marked_but old new pairs (swap_remove pairs place p) place h at (λ i other below.
    let moved = set pairs place (get_or pairs (length pairs - 1) p) in
    let less : i < length pairs - 1 =
    omega (
      arith,
      length-take (length pairs - 1) moved,
      length-set pairs place (get_or pairs (length pairs - 1) p),
    ) in (
      omega arith,
      ap (λ (q : Pair). q.key)
          (get_or-take (length pairs - 1) moved i no_pair less
          ∙ get_or-set_other pairs place i (get_or pairs (length pairs - 1) p) no_pair other),
    ))

-- the last record's mark is that of the place into which the record moves
pub moved_mark : (marks : List ℕ) (pairs : List Pair) (place last : ℕ) (p : Pair) → last ≡ length pairs - 1 →
    place < length pairs → IsMarked marks pairs → last < marked_room → place < length (swap_remove pairs place p) →
    slice_index marks last ≡ mark_of (key_at (swap_remove pairs place p) place)
moved_mark marks pairs place last p is within h low below =
    let moved = set pairs place (get_or pairs (length pairs - 1) p) in
    let less : place < length pairs - 1 =
    omega (
      arith,
      length-take (length pairs - 1) moved,
      length-set pairs place (get_or pairs (length pairs - 1) p),
    ) in
    h last low (omega arith) ∙ ap mark_of (ap (λ (q : Pair). q.key)
    (get_or_default pairs last no_pair p (omega arith) ∙ ap (λ n. get_or pairs n p) is
    ∙ sym
    (get_or-take (length pairs - 1) moved place no_pair less
    ∙ get_or-set_same pairs place (get_or pairs (length pairs - 1) p) no_pair within)))

-- records keep their marks when one is replaced by another with the same key
pub marked_set : (marks : List ℕ) (pairs : List Pair) (place : ℕ) (p : Pair) → p.key ≡ key_at pairs place →
    IsMarked marks pairs → IsMarked marks (set pairs place p)
marked_set marks pairs place p same h i low below =
    let within : i < length pairs = omega (arith, length-set pairs place p) in
    h i low within ∙ ap mark_of (elim (cases_eq i place) [
      | inl here ↦
          ap (key_at pairs) here ∙ sym same
          ∙ ap (λ (q : Pair). q.key) (sym (get_or-set_same pairs place p no_pair (rw here at within)))
          ∙ ap (key_at (set pairs place p)) (sym here)
      | inr there ↦ ap (λ (q : Pair). q.key) (sym (get_or-set_other pairs place i p no_pair there))
    ])

-- no record whose bit is off has the key
abbrev pub AbsentOff : List Pair → List ℕ → ℕ → Type 0
AbsentOff pairs key bits = (i : ℕ) → i < marked_room → i < length pairs → bit_at bits i ≡ 0 → key_at pairs i ≢ key
