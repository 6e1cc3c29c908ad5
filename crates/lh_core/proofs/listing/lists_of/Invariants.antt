use Rattle.std.proofs.Common.{◌≡◌, ◌<◌, ℕ, map, take}
use Rattle.lh_bucket.specs.Bucket.{IsKept}
use Rattle.lh_core.specs.World.{bucket_at}
use Rattle.lh_core.proofs.listing.lists_of.Given as goal

abbrev pub invariant-loop-bucket : goal.invariant-loop-bucket
invariant-loop-bucket g l =
    (map (λ v. v.items) l.lists.items ≡ map (λ b. (g.B.Bucket.seen b).pairs) (take l.bucket-index l.buckets))
    × ((i : ℕ) → i < l.bucket-index → IsKept (bucket_at (map g.B.Bucket.seen l.buckets) i))
