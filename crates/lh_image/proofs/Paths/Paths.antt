-- Paths have no page in common, and a path has no page twice.
use Rattle.std.proofs.Common.{◌≡◌, ℕ, ◌+◌, ◌<◌, List, length, drop, get_or, sym, ap, ◌∙◌, arith, length-drop}
use Rattle.lh_image.specs.Chains.{IsPath, PathsLaw}
use Rattle.lh_image.proofs.Paths.ShortPaths.{path_from}
use Rattle.lh_image.proofs.Paths.Walks.{path_only}

no_page_twice : (next : ℕ → ℕ) (xs : List ℕ) (h k m : ℕ) → IsPath next h xs → k < m → m < length xs →
    get_or xs k 0 ≡ get_or xs m 0 → ⊥
no_page_twice next xs h k m path less below same =
    let one : IsPath next (get_or xs k 0) (drop k xs) = path_from next xs h k path (omega arith) in
    let two : IsPath next (get_or xs k 0) (drop m xs) = rw same (path_from next xs h m path below) in
    let e : drop k xs ≡ drop m xs = path_only next (drop k xs) (drop m xs) (get_or xs k 0) one two in
    omega (arith, length-drop k xs, length-drop m xs, ap length e)

-- paths have no page in common, and a path has no page twice
pub paths_law : PathsLaw
paths_law next bucket S P path covered = (
  λ i j p low below here there. sym (covered.own i p low here).2 ∙ (covered.own j p below there).2,
  λ i k m low less below. no_page_twice next (path i) (1 + i) k m (covered.follows i low) less below,
)
