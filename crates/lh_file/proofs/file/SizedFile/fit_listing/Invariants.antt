use Rattle.std.proofs.Common.{ℕ, ◌<◌, length}
use Rattle.lh_bucket.specs.Listing.{list_at}
use Rattle.lh_file.specs.Buckets.Rooms.{FitsAt}
use Rattle.lh_file.proofs.file.SizedFile.fit_listing.Given as goal

abbrev pub invariant-loop-bucket : goal.invariant-loop-bucket
invariant-loop-bucket g l =
    (b p : ℕ) → b < l.bucket → p < length (list_at l.listing.lists b) →
    FitsAt g.row.ROOM 0 (list_at l.listing.lists b) p
