use Rattle.std.proofs.Common.{◌≡◌, ◌||◌, ◌++◌, List, ℕ, take, drop}
use Rattle.std.specs.BTreeSet.{contains}
use Rattle.std.specs.Cmp.Lexicographic.{slice_cmp}
use Rattle.std.specs.Ordering.{nat_cmp}
use Rattle.lh_page.specs.Records.{keys_of}
use Rattle.lh_image.specs.Faults.{misfits}
use Rattle.lh_image.specs.Misplaced.{IsSetOf, is_home}
use Rattle.lh_image.proofs.judge.misplaced.has_misfit.Given as goal

abbrev pub invariant-loop-pair : goal.invariant-loop-pair
invariant-loop-pair l = record {
  known : (before : List (List ℕ)) → IsSetOf (contains (slice_cmp nat_cmp) l.initial.came) before →
      IsSetOf (contains (slice_cmp nat_cmp) l.came) (before ++ keys_of (take l.pair-index l.pairs));
  value : (before : List (List ℕ)) → IsSetOf (contains (slice_cmp nat_cmp) l.initial.came) before →
      (l.misfit
      || misfits (is_home l.root l.bucket) (before ++ keys_of (take l.pair-index l.pairs))
      (drop l.pair-index l.pairs)) ≡ misfits (is_home l.root l.bucket) before l.pairs;
}
