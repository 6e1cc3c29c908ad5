use Rattle.std.proofs.Common.{◌++◌, List, ℕ, Bool, take}
use Rattle.std.specs.BTreeSet.{contains}
use Rattle.std.specs.Cmp.Lexicographic.{slice_cmp}
use Rattle.std.specs.List.{flat_map}
use Rattle.std.specs.Ordering.{nat_cmp}
use Rattle.lh_page.specs.Records.{keys_of}
use Rattle.lh_image.specs.Misplaced.{IsLeastAmong, IsSetOf, IsTestOf, is_home}
use Rattle.lh_image.specs.Table.{page_records}
use Rattle.lh_image.proofs.judge.misplaced.least_in_chain.Given as goal

abbrev pub invariant-loop-page : goal.invariant-loop-page
invariant-loop-page l = record {
  known : IsSetOf (contains (slice_cmp nat_cmp) l.came)
      (keys_of (flat_map (page_records l.table.entries.items l.table.pairs.items) (take l.page-index l.chain)));
  least : (bad : ℕ → Bool) (seen : List ℕ) →
      IsTestOf bad (is_home l.root l.bucket) (page_records l.table.entries.items l.table.pairs.items) l.chain →
      IsLeastAmong bad seen l.fn.before →
      IsLeastAmong bad (seen ++ take l.page-index l.chain) l.least;
}
