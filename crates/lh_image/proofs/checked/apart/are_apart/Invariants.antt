use Rattle.std.proofs.Common.{◌≡◌, ◌≤◌, ◌*◌, length}
use Rattle.lh_image.specs.Layout.{view_of}
use Rattle.lh_image.specs.Plain.{AreDistinctChains, IsIndexOf}
use Rattle.lh_image.specs.View.{page_count}
use Rattle.lh_image.proofs.checked.apart.are_apart.Given as goal

abbrev pub invariant-loop-bucket : goal.invariant-loop-bucket
invariant-loop-bucket l = record {
  size : length l.chain ≡ 64;
  few : l.count ≤ 64 * l.bucket;
  apart : IsIndexOf l.bytes l.fn.version l.index → length l.index ≡ page_count (view_of l.bytes) →
      AreDistinctChains l.bytes l.bucket l.count;
}
