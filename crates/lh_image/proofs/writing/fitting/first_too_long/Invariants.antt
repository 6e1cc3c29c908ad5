use Rattle.std.proofs.Common.{ℕ, ◌<◌, length}
use Rattle.lh_bucket.specs.Listing.{list_at}
use Rattle.lh_image.specs.Fitting.{IsFitting}
use Rattle.lh_image.proofs.writing.fitting.first_too_long.Given as goal

abbrev pub invariant-loop-bucket : goal.invariant-loop-bucket
invariant-loop-bucket l =
    (b p : ℕ) → b < l.bucket → p < length (list_at l.listing.lists b) →
    IsFitting l.format b (list_at l.listing.lists b) p
