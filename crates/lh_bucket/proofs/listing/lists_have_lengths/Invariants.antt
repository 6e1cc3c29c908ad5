use Rattle.std.proofs.Common.{ℕ, ◌<◌, map}
use Rattle.std.specs.List.{All}
use Rattle.lh_page.specs.Records.{IsRecord}
use Rattle.lh_bucket.specs.Listing.{list_at}
use Rattle.lh_bucket.proofs.listing.lists_have_lengths.Given as goal

abbrev pub invariant-loop-place : goal.invariant-loop-place
invariant-loop-place l = (b : ℕ) → b < l.place → All IsRecord (list_at (map (λ v. v.items) l.lists) b)
