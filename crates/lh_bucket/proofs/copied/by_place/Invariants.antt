use Rattle.std.proofs.Common.{◌≡◌, ℕ, ◌<◌, List, length, take, Some, slice_get}
use Rattle.lh_page.specs.declared.pair.Pair.{Pair}
use Rattle.lh_bucket.proofs.copied.by_place.Given as goal

abbrev pub invariant-loop-place : goal.invariant-loop-place
invariant-loop-place g l =
    (all : List Pair) → length all ≡ l.count →
    ((place : ℕ) (pair : Pair) → place < l.count → goal.F-post g l.pair_at place pair →
    slice_get all place ≡ Some pair) →
    l.pairs.items ≡ take l.place all
