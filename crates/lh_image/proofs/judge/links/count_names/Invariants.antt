use Rattle.std.proofs.Common.{◌≡◌, ◌<◌, ℕ, length, slice_index}
use Rattle.lh_image.specs.Faults.{names}
use Rattle.lh_image.specs.Table.{next_in}
use Rattle.lh_image.proofs.judge.links.count_names.Given as goal

abbrev pub invariant-loop-page : goal.invariant-loop-page
invariant-loop-page l = record {
  size : length l.counts.items ≡ length l.entries;
  named : (p : ℕ) → p < length l.entries → slice_index l.counts.items p ≡ names (next_in l.entries) l.page p;
}
