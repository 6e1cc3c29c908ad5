-- Chains of pages: what following `next` from a page gives
use Rattle.std.specs.Prelude.{◌≡◌, ◌≢◌, ℕ, zero, suc, Bool, true, ◌+◌, ◌<◌, ◌≤◌, List, [], ◌∷◌, length, slice_index}
use Rattle.std.specs.Prelude.{◌==◌, if◌then◌else◌, ◌↔◌}
use Rattle.std.specs.List.{list_any}

-- where pages lead: the next page of each and its bucket, how many of the pages from 1 on are heads of chains, and how
-- many pages there are
pub record Links : Type 0 where
  pub next : ℕ → ℕ
  pub bucket : ℕ → ℕ
  pub heads : ℕ
  pub pages : ℕ

-- the pages that come from page p by `next`, itself first and no more than this many; 0 stands for none
unfoldable pub pages_from : (ℕ → ℕ) → ℕ → ℕ → List ℕ
pages_from next zero p = []
pages_from next (suc k) p = if p == 0 then [] else p ∷ pages_from next k (next p)

-- a page stands in a list of pages
unfoldable pub stands_in : List ℕ → ℕ → Bool
stands_in pages p = list_any (λ q. q == p) pages

-- a path: from page p on it follows `next` to its end
abbrev pub IsPath : (ℕ → ℕ) → ℕ → List ℕ → Type 0
IsPath next p [] = p ≡ 0
IsPath next p (q ∷ rest) = (q ≡ p) × (1 ≤ p) × IsPath next (next p) rest

-- Pages 1 to P - 1 of which the first S are heads: where `next` isn't 0 it names a page that is no head, of the same
-- bucket, and that no other page names.
pub record IsLinked (next bucket : ℕ → ℕ) (S P : ℕ) : Type 0 where
  pub heads : (i : ℕ) → i < S → bucket (1 + i) ≡ i
  pub within : (p : ℕ) → 1 ≤ p → p < P → next p ≢ 0 → next p < P
  pub no_head : (p : ℕ) → 1 ≤ p → p < P → next p ≢ 0 → S < next p
  pub same : (p : ℕ) → 1 ≤ p → p < P → next p ≢ 0 → bucket (next p) ≡ bucket p
  pub once : (p q : ℕ) → 1 ≤ p → p < P → 1 ≤ q → q < P → next p ≢ 0 → next p ≡ next q → p ≡ q

-- Each bucket has a path from its head, each page stands on the path of its bucket,
-- and a path has pages of its bucket alone.
pub record IsCovered (next bucket : ℕ → ℕ) (S P : ℕ) (path : ℕ → List ℕ) : Type 0 where
  pub follows : (i : ℕ) → i < S → IsPath next (1 + i) (path i)
  pub own : (i p : ℕ) → i < S → stands_in (path i) p ≡ true → (1 ≤ p) × (p < P) × (bucket p ≡ i)
  pub all : (p : ℕ) → 1 ≤ p → p < P → (bucket p < S) × (stands_in (path (bucket p)) p ≡ true)

-- the pages of bucket i, as following `next` finds them among P pages
abbrev pub chain : (ℕ → ℕ) → ℕ → ℕ → List ℕ
chain next P i = pages_from next P (1 + i)

-- Where the pages are linked and each is on a chain, the chains are the paths. Pages that have paths are linked,
-- and the paths are their chains.
abbrev pub ChainLaw : Type 0
ChainLaw =
    (next bucket : ℕ → ℕ) (S P : ℕ) (path : ℕ → List ℕ) → next 0 ≡ 0 → S < P →
    (IsLinked next bucket S P
    × ((p : ℕ) → 1 ≤ p → p < P → (i : ℕ) × (i < S) × (stands_in (chain next P i) p ≡ true))
    × ((i : ℕ) → i < S → path i ≡ chain next P i))
    ↔ IsCovered next bucket S P path

-- Paths have no page in common, and a path has no page twice.
abbrev pub PathsLaw : Type 0
PathsLaw =
    (next bucket : ℕ → ℕ) (S P : ℕ) (path : ℕ → List ℕ) → IsCovered next bucket S P path →
    ((i j p : ℕ) → i < S → j < S → stands_in (path i) p ≡ true → stands_in (path j) p ≡ true → i ≡ j)
    × ((i k m : ℕ) → i < S → k < m → m < length (path i) → slice_index (path i) k ≢ slice_index (path i) m)
