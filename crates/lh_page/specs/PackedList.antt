-- A chain as its callers see it: records in their order, cut into pages.
use Rattle.std.specs.Prelude.{◌≡◌, ℕ, ◌+◌, ◌-◌, ◌*◌, ◌/◌, ◌<◌, ◌≤◌, ◌↔◌, zero, suc, List, [], ◌∷◌, length, take, drop}
use Rattle.std.specs.Prelude.{slice_index_or, nat_le, if◌then◌else◌}
use Rattle.std.specs.List.{IsDistinct, flat_map}
use Rattle.std.specs.Str.{bytes_eq}
use Rattle.lh_page.specs.declared.pair.Pair.{Pair}
use Rattle.lh_page.specs.Limits.{IsPageCapacity}
use Rattle.lh_page.specs.Records.{keys_of}

-- records in their order, and how many of them a page holds
pub record PackedList : Type 0 where
  pub capacity : ℕ
  pub pairs : List Pair

-- a capacity that pages have, and no key twice
pub record IsPackedList (list : PackedList) : Type 0 where
  pub capacity : IsPageCapacity list.capacity
  pub distinct : IsDistinct bytes_eq (keys_of list.pairs)

-- Packed pages: every page but the last is full, and only the first may be empty.
abbrev pub IsPacked : ℕ → List (List Pair) → Type 0
IsPacked b [] = ⊥
IsPacked b (last ∷ []) = length last ≤ b
IsPacked b (first ∷ second ∷ rest) = (length first ≡ b) × (1 ≤ length second) × IsPacked b (second ∷ rest)

-- a list of records cut into pieces of b, of which there are at most n + 1
unfoldable pub pieces : ℕ → ℕ → List Pair → List (List Pair)
pieces zero b pairs = pairs ∷ []
pieces (suc n) b pairs = if nat_le (length pairs) b then pairs ∷ [] else take b pairs ∷ pieces n b (drop b pairs)

-- the pages of a packed list: pieces of b records, the last with what is left; the empty list is one empty page
abbrev pub pages_of : ℕ → List Pair → List (List Pair)
pages_of b pairs = pieces (length pairs) b pairs

-- how many pages a list of n records has, at b records a page
abbrev pub pages_needed : ℕ → ℕ → ℕ
pages_needed b n = (n - 1) / b + 1

-- the records of some pages, page after page
abbrev pub joined : List (List Pair) → List Pair
joined pages = flat_map (λ page. page) pages

-- The pages of a list are the one row of packed pages that hold its records in their order.
abbrev pub PackingLaw : Type 0
PackingLaw = (b : ℕ) (pairs : List Pair) (pages : List (List Pair)) → 1 ≤ b →
    (IsPacked b pages × (joined pages ≡ pairs)) ↔ (pages ≡ pages_of b pairs)

-- Page k of a list holds the records from place k * b on, and there are as many pages as that takes, but at least one.
abbrev pub PiecesLaw : Type 0
PiecesLaw = (b : ℕ) (pairs : List Pair) → 1 ≤ b →
    (length (pages_of b pairs) ≡ pages_needed b (length pairs))
    × ((k : ℕ) → k < length (pages_of b pairs) →
    (k * b ≤ length pairs) × (slice_index_or (pages_of b pairs) k [] ≡ take b (drop (k * b) pairs)))
