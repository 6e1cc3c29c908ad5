use Rattle.std.proofs.Common.{ℕ, ◌<◌}
use Rattle.lh_bucket.specs.Listing.{IsNew}
use Rattle.lh_bucket.proofs.listing_faults.again_among.Given as goal

abbrev pub invariant-loop-place : goal.invariant-loop-place
invariant-loop-place l = (p : ℕ) → p < l.place → IsNew 0 l.pairs p
