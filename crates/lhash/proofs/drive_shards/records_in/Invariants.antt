use Rattle.std.proofs.Common.{◌≡◌, ◌-◌, ◌^◌, min, take}
use Rattle.std.specs.Prelude.{sum_by}
use Rattle.lh_bucket.specs.Listing.{count_of}
use Rattle.lhash.proofs.drive_shards.records_in.Given as goal

abbrev pub invariant-loop-shard : goal.invariant-loop-shard
invariant-loop-shard l =
    l.records ≡ min (sum_by (λ shard. count_of shard.closed.lists) (take l.shard l.closed)) (2 ^ 64 - 1)
