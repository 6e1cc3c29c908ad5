use Rattle.std.proofs.Common.{◌≡◌, map, []}
use Rattle.std.specs.Prelude.{replicate}
use Rattle.lh_bucket.proofs.listing.Listing.empty.Given as goal

abbrev pub invariant-loop-bucket : goal.invariant-loop-bucket
invariant-loop-bucket l = map (λ v. v.items) l.lists.items ≡ replicate l._bucket []
