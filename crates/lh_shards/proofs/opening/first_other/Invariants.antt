-- The listings so far have the configuration of the first one.
use Rattle.std.proofs.Common.{◌≡◌}
use Rattle.lh_shards.proofs.Homes.{EachListingBefore}
use Rattle.lh_shards.proofs.opening.first_other.Given as goal

abbrev pub invariant-loop-shard : goal.invariant-loop-shard
invariant-loop-shard l = EachListingBefore (λ shard listing. listing.config ≡ l.config) l.listings l.shard
