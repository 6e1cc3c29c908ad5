-- How many pieces a list is cut into.
use Rattle.std.proofs.Common.{◌≡◌, ℕ, zero, suc, ◌+◌, ◌-◌, ◌*◌, ◌/◌, ◌<◌, ◌≤◌, leb, List, [], ◌∷◌, get_or, ◌++◌, length}
use Rattle.std.proofs.Common.{take, drop, refl, sym, ap, ◌∙◌, inl, inr, arith}
use Rattle.std.proofs.Math.Nat.{div-eq_of_lt, add-div_right}
use Rattle.std.proofs.lemmas.Bool.{leb-true, leb-false, le-leb, lt-leb, cases_Bool}
use Rattle.std.proofs.lemmas.List.{append-nil, drop-drop, length-append, length-drop, length-take, length-take-le}
use Rattle.std.proofs.lemmas.List.{take-append-drop, take_all, take_at, drop_at}
use Rattle.lh_page.specs.declared.pair.Pair.{Pair}
use Rattle.lh_page.specs.PackedList.{pieces, IsPacked, joined, PackingLaw, PiecesLaw}

one_page : (n b : ℕ) → 1 ≤ b → n ≤ b → 1 ≡ (n - 1) / b + 1
one_page n b some few = let e : (n - 1) / b ≡ 0 = div-eq_of_lt (omega arith) in omega arith

page_more : (n b : ℕ) → 1 ≤ b → b < n → suc ((n - b - 1) / b + 1) ≡ (n - 1) / b + 1
page_more n b some many =
    let e : (n - 1) / b ≡ (n - b - 1) / b + 1 =
    ap (λ m. m / b) (let f : n - 1 ≡ n - b - 1 + b = omega arith in f) ∙ add-div_right (n - b - 1) some in
    omega arith

-- a list of records is cut into as many pieces as it needs pages
pub length-pieces : (n b : ℕ) (pairs : List Pair) → 1 ≤ b → length pairs ≤ n →
    length (pieces n b pairs) ≡ (length pairs - 1) / b + 1
unfolding pieces
length-pieces zero b pairs some few = one_page (length pairs) b some (omega arith)
length-pieces (suc n) b pairs some few =
    elim (cases_Bool (leb (length pairs) b)) [
      | inl fits ↦ rw fits (one_page (length pairs) b some (leb-true _ _ fits))
      | inr more ↦
          let many : b < length pairs = leb-false _ _ more in
          let less : length (drop b pairs) ≡ length pairs - b = length-drop b pairs in
          rw more
          (ap suc (length-pieces n b (drop b pairs) some (omega arith) ∙ ap (λ m. (m - 1) / b + 1) less)
          ∙ page_more (length pairs) b some many)
    ]

FirstHasOne : List (List Pair) → Type 0
FirstHasOne [] = ⊥
FirstHasOne (page ∷ pages) = 1 ≤ length page

first-pieces : (n b : ℕ) (pairs : List Pair) → 1 ≤ b → 1 ≤ length pairs → FirstHasOne (pieces n b pairs)
unfolding pieces FirstHasOne
first-pieces zero b pairs some many = many
first-pieces (suc n) b pairs some many = elim (cases_Bool (leb (length pairs) b)) [
  | inl fits ↦ rw fits many
  | inr more ↦ rw more (omega (arith, length-take b pairs))
]

packed-cons : (b : ℕ) (page : List Pair) (pages : List (List Pair)) → length page ≡ b → FirstHasOne pages →
    IsPacked b pages → IsPacked b (page ∷ pages)
unfolding FirstHasOne
packed-cons b page [] full some h = absurd some
packed-cons b page (second ∷ rest) full some h = (full, some, h)

-- the pieces are packed
packed-pieces : (n b : ℕ) (pairs : List Pair) → 1 ≤ b → length pairs ≤ n → IsPacked b (pieces n b pairs)
unfolding pieces
packed-pieces zero b pairs some few = omega arith
packed-pieces (suc n) b pairs some few = elim (cases_Bool (leb (length pairs) b)) [
  | inl fits ↦ rw fits (leb-true _ _ fits)
  | inr more ↦
      let many : b < length pairs = leb-false _ _ more in
      let less : length (drop b pairs) ≡ length pairs - b = length-drop b pairs in
      rw more
      (packed-cons b (take b pairs) (pieces n b (drop b pairs)) (length-take-le b pairs (omega arith))
      (first-pieces n b (drop b pairs) some (omega arith))
      (packed-pieces n b (drop b pairs) some (omega arith)))
]

-- the pieces joined are the list
joined-pieces : (n b : ℕ) (pairs : List Pair) → joined (pieces n b pairs) ≡ pairs
unfolding pieces
joined-pieces zero b pairs = append-nil pairs
joined-pieces (suc n) b pairs = elim (cases_Bool (leb (length pairs) b)) [
  | inl fits ↦ rw fits (append-nil pairs)
  | inr more ↦ rw more (ap (λ rest. take b pairs ++ rest) (joined-pieces n b (drop b pairs)) ∙ take-append-drop b pairs)
]

one-piece : (n b : ℕ) (pairs : List Pair) → length pairs ≤ b → pieces n b pairs ≡ pairs ∷ []
unfolding pieces
one-piece zero b pairs fits = refl
one-piece (suc n) b pairs fits = rw (le-leb (length pairs) b fits) refl

more-pieces : (n b : ℕ) (page rest : List Pair) → length page ≡ b → 1 ≤ length rest →
    pieces (suc n) b (page ++ rest) ≡ page ∷ pieces n b rest
unfolding pieces
more-pieces n b page rest full some =
    let long : b < length (page ++ rest) = omega (arith, length-append page rest) in
    rw (lt-leb (length (page ++ rest)) b long, take_at page rest b full, drop_at page rest b full) refl

-- packed pages are the pieces of what they hold
pieces-joined : (n b : ℕ) (pages : List (List Pair)) → 1 ≤ b → IsPacked b pages → length (joined pages) ≤ n →
    pieces n b (joined pages) ≡ pages
pieces-joined n b [] some h few = absurd h
pieces-joined n b (last ∷ []) some h few = ap (pieces n b) (append-nil last) ∙ one-piece n b last h
pieces-joined zero b (first ∷ second ∷ rest) some h few =
    absurd (omega (arith, h.0, length-append first (joined (second ∷ rest))))
pieces-joined (suc n) b (first ∷ second ∷ rest) some h few =
    let whole : length (first ++ joined (second ∷ rest)) ≡ length first + length (joined (second ∷ rest)) =
    length-append first (joined (second ∷ rest)) in
    let left : length (second ++ joined rest) ≡ length second + length (joined rest) =
    length-append second (joined rest) in
    more-pieces n b first (joined (second ∷ rest)) h.0 (omega (arith, h.1, left))
    ∙ ap (λ pages. first ∷ pages) (pieces-joined n b (second ∷ rest) some h.2 (omega (arith, h.0, whole)))

-- the pages of a list are the one row of packed pages that hold its records in their order
pub packing : PackingLaw
packing b pairs pages some = (
  λ h.
      sym (pieces-joined (length pairs) b pages some h.0 (omega (arith, ap length h.1)))
      ∙ ap (pieces (length pairs) b) h.1,
  λ e. rw e (packed-pieces (length pairs) b pairs some (omega arith), joined-pieces (length pairs) b pairs),
)

-- ---- the records of one page

Starts : (b k : ℕ) (pairs : List Pair) → List Pair → Type 0
Starts b k pairs page = (k * b ≤ length pairs) × (page ≡ take b (drop (k * b) pairs))

only_page : (b k : ℕ) (pairs : List Pair) → length pairs ≤ b → k < 1 → Starts b k pairs (get_or (pairs ∷ []) k [])
unfolding Starts
only_page b zero pairs fits low =
    let e : 0 * b ≡ 0 = omega arith in
    (omega arith, rw (e, take_all b pairs fits) refl)
only_page b (suc k) pairs fits low = absurd (omega arith)

piece_at : (n b k : ℕ) (pairs : List Pair) → 1 ≤ b → length pairs ≤ n → k < length (pieces n b pairs) →
    Starts b k pairs (get_or (pieces n b pairs) k [])
unfolding pieces Starts
piece_at zero b k pairs some few low = only_page b k pairs (omega arith) (omega arith)
piece_at (suc n) b zero pairs some few low =
    let e : 0 * b ≡ 0 = omega arith in
    elim (cases_Bool (leb (length pairs) b)) [
      | inl fits ↦ rw fits (only_page b zero pairs (leb-true _ _ fits) (omega arith))
      | inr more ↦ rw more (omega arith, rw e refl)
    ]
piece_at (suc n) b (suc k) pairs some few low = elim (cases_Bool (leb (length pairs) b)) [
  | inl fits ↦
      absurd (let one : length (pieces (suc n) b pairs) ≡ 1 =
      ap length (one-piece (suc n) b pairs (leb-true _ _ fits)) in omega (arith, one, low))
  | inr more ↦
      let many : b < length pairs = leb-false _ _ more in
      let less : length (drop b pairs) ≡ length pairs - b = length-drop b pairs in
      let count : length (pieces (suc n) b pairs) ≡ suc (length (pieces n b (drop b pairs))) = rw more refl in
      let h = piece_at n b k (drop b pairs) some (omega arith) (omega (arith, count, low)) in
      let e : suc k * b ≡ b + k * b = omega arith in
      rw more (omega (arith, h.0), h.1 ∙ ap (take b) (drop-drop (k * b) b pairs ∙ ap (λ m. drop m pairs) (sym e)))
]

-- each page of a list holds the records from its own place on, and there are as many pages as that takes
pub all_pieces : PiecesLaw
unfolding Starts
all_pieces b pairs some = (
  length-pieces (length pairs) b pairs some (omega arith),
  λ k low. piece_at (length pairs) b k pairs some (omega arith) low,
)
