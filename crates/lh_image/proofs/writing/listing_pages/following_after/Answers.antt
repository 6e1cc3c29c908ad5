use Rattle.std.proofs.Common.{arith}
use Rattle.lh_bucket.specs.Listing.{size}
use Rattle.lh_image.proofs.Writes.Counting.{overflow_within, overflow-more}
use Rattle.lh_image.proofs.writing.listing_pages.following_after.Goals as goal

pub overflow_cast-result : goal.overflow_cast-result
overflow_cast-result c =
    omega (
      arith,
      c.requires.few,
      c.page_count_in.ensures.value,
      overflow_within c.args.listing.now c.args.bucket (size c.args.listing.now) c.requires.bucket,
    )

pub overflow_add-result : goal.overflow_add-result
overflow_add-result c =
    omega (
      arith,
      c.requires.few,
      c.requires.following,
      c.page_count_in.ensures.value,
      overflow_within c.args.listing.now c.args.bucket (size c.args.listing.now) c.requires.bucket,
    )

pub returns-clause-value : goal.returns-clause-value
returns-clause-value c =
    omega (arith, c.requires.following, c.page_count_in.ensures.value, overflow-more c.args.listing.now c.args.bucket)

pub returns-clause-within : goal.returns-clause-within
returns-clause-within c =
    omega (
      arith,
      c.requires.few,
      c.requires.following,
      c.page_count_in.ensures.value,
      overflow_within c.args.listing.now c.args.bucket (size c.args.listing.now) c.requires.bucket,
    )
