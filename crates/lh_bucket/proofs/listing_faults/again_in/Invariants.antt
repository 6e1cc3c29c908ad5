use Rattle.std.specs.Ordering.{nat_cmp}
use Rattle.std.specs.Cmp.Lexicographic.{slice_cmp}
use Rattle.std.specs.BTreeSet.{contains}
use Rattle.lh_bucket.proofs.Listings.{IsSeen}
use Rattle.lh_bucket.proofs.listing_faults.again_in.Given as goal

abbrev pub invariant-loop-place : goal.invariant-loop-place
invariant-loop-place l = IsSeen l.pairs l.place (contains (slice_cmp nat_cmp) l.seen)
