-- The records of the listings so far stand in their own shards.
use Rattle.std.proofs.Common.{length}
use Rattle.lh_bucket.specs.Listing.{EachPlace}
use Rattle.lh_shards.specs.Opening.{IsHomeIn}
use Rattle.lh_shards.proofs.Homes.{EachListingBefore}
use Rattle.lh_shards.proofs.opening.first_away.Given as goal

abbrev pub invariant-loop-shard : goal.invariant-loop-shard
invariant-loop-shard l =
    EachListingBefore (λ shard listing. EachPlace (IsHomeIn (length l.listings) shard) listing.lists) l.listings l.shard
