-- A bucket that is an ordered map
use Rattle.std.specs.Prelude.{ℕ, List, map}
use Rattle.std.specs.Ordering.{nat_cmp}
use Rattle.std.specs.Cmp.Lexicographic.{slice_cmp}
use Rattle.std.specs.List.Sorted.{IsStrictlySortedBy}
use Rattle.lh_page.specs.declared.pair.Pair.{Pair}
use Rattle.lh_page.specs.Records.{keys_of}
use Rattle.lh_bucket.specs.Bucket.{Seen, IsKept}

-- the entries of a map as records
abbrev pub pairs_of_entries : List (List ℕ × List ℕ) → List Pair
pairs_of_entries entries = map (λ e. record { key = e.0; value = e.1 }) entries

-- records in the order of their keys, which rise strictly
abbrev pub IsInKeyOrder : List Pair → Type 0
IsInKeyOrder pairs = IsStrictlySortedBy (slice_cmp nat_cmp) (keys_of pairs)

-- what holds of every such bucket
pub record IsPlain (bucket : Seen) : Type 0 where
  pub kept : IsKept bucket
  pub sorted : IsInKeyOrder bucket.pairs
