-- The listings so far are empty.
use Rattle.std.proofs.Common.{◌≡◌, [], length}
use Rattle.std.specs.List.{All}
use Rattle.std.specs.Prelude.{replicate}
use Rattle.lh_bucket.specs.Listing.{Lists}
use Rattle.lh_shards.proofs.listings.empty_listings.Given as goal

abbrev pub invariant-loop-shard : goal.invariant-loop-shard
invariant-loop-shard l = record {
  many : length l.listings.items ≡ l._shard;
  each : All (λ (listing : Lists). listing ≡ record { config = l.config; lists = replicate l.config.initial [] })
      l.listings.items;
}
