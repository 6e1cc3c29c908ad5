use Rattle.std.proofs.Common.{◌≡◌, take, drop}
use Rattle.lh_bucket.specs.Listing.{list_at}
use Rattle.lh_image.proofs.writing.listing_pages.put_pairs.Given as goal

abbrev pub invariant-loop-place : goal.invariant-loop-place
invariant-loop-place l = l.pairs ≡ take l.place (drop l.start (list_at l.listing.lists l.bucket))
