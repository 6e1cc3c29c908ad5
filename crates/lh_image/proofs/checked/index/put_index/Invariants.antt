use Rattle.std.proofs.Common.{◌≡◌, ℕ, ◌<◌, ◌≤◌, length}
use Rattle.lh_image.specs.Checked.{IsIndexed, index_at}
use Rattle.lh_image.specs.Layout.{page}
use Rattle.lh_image.specs.Version.{format_of, version_of}
use Rattle.lh_image.proofs.checked.index.put_index.Given as goal

abbrev pub invariant-loop-page : goal.invariant-loop-page
invariant-loop-page l = record {
  size : length l.index ≡ length l.initial.index;
  pages : (p : ℕ) → 1 ≤ p → p < l.page →
      IsIndexed (format_of (version_of l.bytes)) (page l.bytes p) (index_at l.index p);
}
