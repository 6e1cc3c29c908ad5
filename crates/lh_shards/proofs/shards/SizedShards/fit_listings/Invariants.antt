-- The records of the listings so far have room.
use Rattle.lh_file.specs.Buckets.Rooms.{FitListing}
use Rattle.lh_shards.proofs.Homes.{EachListingBefore}
use Rattle.lh_shards.proofs.shards.SizedShards.fit_listings.Given as goal

abbrev pub invariant-loop-shard : goal.invariant-loop-shard
invariant-loop-shard g l = EachListingBefore (λ shard listing. FitListing g.row.ROOM listing) l.listings l.shard
