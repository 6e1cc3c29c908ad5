-- The records of the buckets so far belong to the shard.
use Rattle.lh_shards.specs.Opening.{IsHomeIn}
use Rattle.lh_shards.proofs.Homes.{EachBefore}
use Rattle.lh_shards.proofs.opening.away_of.Given as goal

abbrev pub invariant-loop-bucket : goal.invariant-loop-bucket
invariant-loop-bucket l = EachBefore (IsHomeIn l.shards l.shard) l.listing.lists l.bucket
