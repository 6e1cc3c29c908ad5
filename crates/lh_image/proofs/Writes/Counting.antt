-- How many pages there are, by bucket.
use Rattle.std.proofs.Common.{◌≡◌, ℕ, zero, suc, ◌+◌, ◌-◌, ◌*◌, ◌/◌, ◌%◌, List, ◌<◌, ◌≤◌, [], take, drop, get_or, inl}
use Rattle.std.proofs.Common.{inr, sym, ap, ◌∙◌, length, arith}
use Rattle.std.proofs.Math.Numerals.{add-one}
use Rattle.std.proofs.lemmas.Bool.{cases_lt}
use Rattle.std.proofs.Math.Nat.{div-add-mod, mod-lt, mul-le-mul_left}
use Rattle.std.proofs.Math.Seq.{take-length}
use Rattle.std.proofs.lemmas.List.{take_more}
use Rattle.std.proofs.lemmas.List.Sums.{sum_by_push}
use Rattle.lh_addr.specs.Limits.{IsCapacity, most_capacity}
use Rattle.lh_page.specs.declared.pair.Pair.{Pair}
use Rattle.lh_page.specs.PackedList.{PiecesLaw}
use Rattle.lh_bucket.specs.Listing.{Lists, size, list_at, count_of}
use Rattle.lh_image.specs.Canonical.{page_count_in, pages_in, overflow_before, page_total}
use Rattle.lh_image.specs.Layout.{most_pages}

-- the number of overflow pages of the first buckets, after one bucket more
pub overflow-more : (l : Lists) (n : ℕ) → overflow_before l (n + 1) ≡ overflow_before l n + (page_count_in l n - 1)
unfolding overflow_before
overflow-more l n = ap (overflow_before l) (add-one n)

-- the overflow pages of one bucket are among those of all
pub overflow_within : (l : Lists) (i n : ℕ) → i < n →
    overflow_before l i + (page_count_in l i - 1) ≤ overflow_before l n
overflow_within l i zero low = absurd (omega arith)
overflow_within l i (suc n) low =
    let more : overflow_before l (suc n) ≡ overflow_before l n + (page_count_in l n - 1) =
    ap (overflow_before l) (sym (add-one n)) ∙ overflow-more l n in
    elim (cases_lt i n) [
      | inl below ↦ omega (arith, overflow_within l i n below, more)
      | inr not_below ↦
          let same : i ≡ n = omega arith in
          omega (arith, more, ap (overflow_before l) same, ap (page_count_in l) same)
    ]

-- a bucket has this many pages
pub page_count_is : (l : Lists) (i : ℕ) → PiecesLaw → 1 ≤ l.config.capacity →
    page_count_in l i ≡ (length (list_at l.lists i) - 1) / l.config.capacity + 1
unfolding page_count_in
page_count_is l i pieces some = (pieces l.config.capacity (list_at l.lists i) some).0

-- which records a page has
pub page_starts : (l : Lists) (i k : ℕ) → PiecesLaw → 1 ≤ l.config.capacity → k < page_count_in l i →
    (k * l.config.capacity ≤ length (list_at l.lists i))
    × (get_or (pages_in l i) k [] ≡ take l.config.capacity (drop (k * l.config.capacity) (list_at l.lists i)))
unfolding page_count_in
page_starts l i k pieces some low = (pieces l.config.capacity (list_at l.lists i) some).1 k low

-- ---- records

-- a bucket's pages have slots for its records
records_within : (l : Lists) (i : ℕ) → PiecesLaw → IsCapacity l.config.capacity →
    length (list_at l.lists i) ≤ most_capacity * page_count_in l i
records_within l i pieces b =
    let n : ℕ = length (list_at l.lists i) in
    let q : ℕ = (n - 1) / l.config.capacity in
    let rest : (n - 1) % l.config.capacity < l.config.capacity = mod-lt (n - 1) b.0 in
    let all : l.config.capacity * q + (n - 1) % l.config.capacity ≡ n - 1 = div-add-mod (n - 1) l.config.capacity in
    let slots : (q + 1) * l.config.capacity ≤ (q + 1) * most_capacity = mul-le-mul_left (q + 1) b.1 in
    omega (arith, rest, all, slots, page_count_is l i pieces b.0)

-- the first n buckets have at most as many records as their pages may have slots
records_before : (l : Lists) → PiecesLaw → IsCapacity l.config.capacity → (n : ℕ) → n ≤ size l →
    count_of (take n l.lists) ≤ most_capacity * (n + overflow_before l n)
records_before l pieces b zero low = omega arith
records_before l pieces b (suc n) low =
    let list : List (List Pair) = l.lists in
    let more : count_of (take (suc n) l.lists) ≡ count_of (take n l.lists) + length (list_at l.lists n) =
    ap (λ m. count_of (take m l.lists)) (sym (add-one n)) ∙ ap count_of (take_more l.lists n [] (omega arith))
    ∙ sum_by_push length (take n l.lists) (list_at l.lists n) in
    let pages : overflow_before l (suc n) ≡ overflow_before l n + (page_count_in l n - 1) =
    ap (overflow_before l) (sym (add-one n)) ∙ overflow-more l n in
    omega (
      arith,
      more,
      pages,
      records_within l n pieces b,
      page_count_is l n pieces b.0,
      records_before l pieces b n (omega arith),
    )

-- a listing with no more pages than an image may have has no more records than so many pages may have slots for
pub records_few : (l : Lists) → PiecesLaw → IsCapacity l.config.capacity → page_total l ≤ most_pages →
    count_of l.lists ≤ most_capacity * most_pages
records_few l pieces b few =
    omega (arith, few, ap count_of (take-length l.lists), records_before l pieces b (size l) (omega arith))

-- an overflow page's bucket and place, by how many overflow pages stand before it
pub overflow_found : (l : Lists) (n q : ℕ) → q < overflow_before l n →
    (i : ℕ) × (k : ℕ) × (i < n) × (suc k < page_count_in l i) × (q ≡ overflow_before l i + k)
unfolding overflow_before
overflow_found l zero q low = absurd (omega arith)
overflow_found l (suc n) q low = elim (cases_lt q (overflow_before l n)) [
  | inl before ↦ let r = overflow_found l n q before in (r.0, r.1, omega (arith, r.2), r.3, r.4)
  | inr here ↦ (n, q - overflow_before l n, omega arith, omega arith, omega arith)
]
