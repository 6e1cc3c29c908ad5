-- What is counted of no buckets and of one bucket more, and that the pages of a chain have slots enough.
use Rattle.std.proofs.Common.{◌≡◌, ◌∙◌, ℕ, ◌+◌, ◌-◌, ◌*◌, ◌/◌, ◌<◌, ◌≤◌, List, [], ◌∷◌, ◌++◌, length, take, drop}
use Rattle.std.proofs.Common.{get_or, ap, arith, length-drop}
use Rattle.std.specs.Prelude.{max, sum_by}
use Rattle.std.proofs.Math.Nat.{lt-mul-div-succ}
use Rattle.std.proofs.lemmas.List.{take_more, get_or-drop}
use Rattle.std.proofs.lemmas.List.Sums.{sum_by_push}
use Rattle.lh_page.specs.declared.pair.Pair.{Pair}
use Rattle.lh_bucket.specs.Listing.{Lists, count_of, list_at, size}
use Rattle.lh_draw.specs.Columns.{chain_length, lists_between, longest_of}

-- a bucket more
lists_more : (l : Lists) (first bucket : ℕ) → first ≤ bucket → bucket < size l →
    lists_between l first (bucket + 1) ≡ lists_between l first bucket ++ list_at l.lists bucket ∷ []
lists_more l first bucket low high =
    let lists : List (List Pair) = l.lists in
    let count : bucket + 1 - first ≡ bucket - first + 1 = omega (arith, low) in
    let place : first + (bucket - first) ≡ bucket = omega (arith, low) in
    ap (λ (n : ℕ). take n (drop first lists)) count
    ∙ take_more (drop first lists) (bucket - first) [] (omega (arith, low, high, length-drop first lists))
    ∙ ap (λ (pairs : List Pair). lists_between l first bucket ++ pairs ∷ [])
    (get_or-drop first lists (bucket - first) [] ∙ ap (λ (n : ℕ). get_or lists n []) place)

-- no buckets
pub lists_none : (l : Lists) (first : ℕ) → lists_between l first first ≡ []
lists_none l first = let none : first - first ≡ 0 = omega arith in ap (λ (n : ℕ). take n (drop first l.lists)) none

-- one bucket more adds its records
pub count_more : (l : Lists) (first bucket : ℕ) → first ≤ bucket → bucket < size l →
    count_of (lists_between l first (bucket + 1)) ≡
    count_of (lists_between l first bucket) + length (list_at l.lists bucket)
count_more l first bucket low high =
    ap count_of (lists_more l first bucket low high)
    ∙ sum_by_push (λ pairs. length pairs) (lists_between l first bucket) (list_at l.lists bucket)

-- one bucket more adds the pages of its chain
pub pages_more : (l : Lists) (capacity first bucket : ℕ) → first ≤ bucket → bucket < size l →
    sum_by (chain_length capacity) (lists_between l first (bucket + 1))
    ≡ sum_by (chain_length capacity) (lists_between l first bucket) + chain_length capacity (list_at l.lists bucket)
pages_more l capacity first bucket low high =
    ap (sum_by (chain_length capacity)) (lists_more l first bucket low high)
    ∙ sum_by_push (chain_length capacity) (lists_between l first bucket) (list_at l.lists bucket)

longest_push : (capacity : ℕ) (lists : List (List Pair)) (pairs : List Pair) →
    longest_of capacity (lists ++ pairs ∷ []) ≡ max (longest_of capacity lists) (chain_length capacity pairs)
unfolding longest_of
longest_push capacity [] pairs = omega arith
longest_push capacity (first ∷ lists) pairs = omega (arith, longest_push capacity lists pairs)

-- with one bucket more the longest chain is the one of before or the bucket's own
pub longest_more : (l : Lists) (capacity first bucket : ℕ) → first ≤ bucket → bucket < size l →
    longest_of capacity (lists_between l first (bucket + 1))
    ≡ max (longest_of capacity (lists_between l first bucket)) (chain_length capacity (list_at l.lists bucket))
longest_more l capacity first bucket low high =
    ap (longest_of capacity) (lists_more l first bucket low high)
    ∙ longest_push capacity (lists_between l first bucket) (list_at l.lists bucket)

-- the pages of a chain have slots for its records
pub slots_enough : (capacity records : ℕ) → 1 ≤ capacity → records ≤ capacity * ((records - 1) / capacity + 1)
slots_enough capacity records some =
    let all : records - 1 < capacity * ((records - 1) / capacity + 1) = lt-mul-div-succ (records - 1) some in
    omega (arith, all)
