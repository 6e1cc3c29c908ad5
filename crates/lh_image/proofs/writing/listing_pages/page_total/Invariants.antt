use Rattle.std.proofs.Common.{◌≡◌, ◌+◌, ◌-◌, ◌^◌}
use Rattle.std.specs.Prelude.{min}
use Rattle.lh_bucket.specs.Listing.{size}
use Rattle.lh_image.specs.Canonical.{overflow_before}
use Rattle.lh_image.proofs.writing.listing_pages.page_total.Given as goal

abbrev pub invariant-loop-bucket : goal.invariant-loop-bucket
invariant-loop-bucket l = l.pages ≡ min (1 + size l.listing + overflow_before l.listing l.bucket) (2 ^ 64 - 1)
