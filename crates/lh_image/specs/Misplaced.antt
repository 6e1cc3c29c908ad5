-- Records of another bucket, and keys that stand twice, as a reader finds them chain by chain
use Rattle.std.specs.Prelude.{◌≡◌, ℕ, ◌<◌, Bool, true, false, List, length, take, slice_index, Option, Some, None}
use Rattle.std.specs.Prelude.{nat_lt, ◌==◌, if◌then◌else◌}
use Rattle.std.specs.List.{list_any, flat_map}
use Rattle.std.specs.Str.{bytes_eq}
use Rattle.lh_addr.specs.Extent.{Extent}
use Rattle.lh_addr.specs.Fnv.{code_of}
use Rattle.lh_addr.specs.Growth.{address}
use Rattle.lh_page.specs.declared.pair.Pair.{Pair}
use Rattle.lh_page.specs.Records.{keys_of}
use Rattle.lh_image.specs.Chains.{stands_in}
use Rattle.lh_image.specs.Faults.{misfits}

-- whether a key's address is bucket i
abbrev pub is_home : Extent → ℕ → List ℕ → Bool
is_home root i key = address root.initial root.buckets (code_of key) == i

-- a set has exactly these keys
abbrev pub IsSetOf : (List ℕ → Bool) → List (List ℕ) → Type 0
IsSetOf member keys = (k : List ℕ) → member k ≡ list_any (bytes_eq k) keys

-- the lesser of two pages, where there are two
abbrev pub lesser_of : Option ℕ → ℕ → ℕ
lesser_of None p = p
lesser_of (Some least) p = if nat_lt least p then least else p

-- the least of some pages that fail a test, or none of them
abbrev pub IsLeastAmong : (ℕ → Bool) → List ℕ → Option ℕ → Type 0
IsLeastAmong bad pages None = (p : ℕ) → stands_in pages p ≡ true → bad p ≡ false
IsLeastAmong bad pages (Some m) =
    (stands_in pages m ≡ true) × (bad m ≡ true)
    × ((p : ℕ) → stands_in pages p ≡ true → p < m → bad p ≡ false)

-- a test of pages that says of each page of a chain whether it has a misfit
abbrev pub IsTestOf : (ℕ → Bool) → (List ℕ → Bool) → (ℕ → List Pair) → List ℕ → Type 0
IsTestOf bad home rec chain =
    (k : ℕ) → k < length chain →
    bad (slice_index chain k) ≡ misfits home (keys_of (flat_map rec (take k chain))) (rec (slice_index chain k))
