use Rattle.std.proofs.Common.{arith}
use Rattle.lh_image.specs.Canonical.{overflow_before}
use Rattle.lh_image.proofs.Writes.Counting.{overflow-more}
use Rattle.lh_image.proofs.writing.listing_pages.page_total.Goals as goal

pub loop-bucket-init : goal.loop-bucket-init
unfolding overflow_before
loop-bucket-init c =
    omega (
      arith,
      c.from-pages.ensures,
      c.buckets-buckets.ensures.value,
      c.buckets-buckets.ensures.kept.shape.to_max,
      c.buckets-buckets.ensures.kept.config.max.1,
    )

pub loop-bucket-preserved : goal.loop-bucket-preserved
loop-bucket-preserved c =
    omega (
      arith,
      c.loop-bucket.invariant,
      c.saturating_add-pages.ensures,
      c.page_count_in.ensures.value,
      c.page_count_in.ensures.some,
      overflow-more c.args.listing.now c.loop-bucket.bucket,
    )
