-- The listings so far are those of the shards, and the others are left.
use Rattle.std.proofs.Common.{◌≡◌, ℕ, ◌+◌, ◌<◌, ◌≤◌, drop, length, Some}
use Rattle.std.specs.List.{slice_get}
use Rattle.std.specs.Vec.{vec_len, vec_capacity}
use Rattle.std.specs.Vec.Iter.{into_iter_items, into_iter_len}
use Rattle.lh_bucket.specs.Listing.{Lists, IsListing}
use Rattle.lh_shards.specs.Listings.{listing_of}
use Rattle.lh_shards.specs.declared.closed_shard.ClosedShard.{ClosedShard}
use Rattle.lh_shards.proofs.closed.ClosedShards.into_listings.Given as goal

abbrev pub invariant-loop-shard : goal.invariant-loop-shard
invariant-loop-shard l = record {
  left : into_iter_items l.left ≡ drop l.shard l.fn.self;
  left_len : into_iter_len l.left + l.shard ≡ length l.fn.self;
  many : length l.listings.items ≡ l.shard;
  len : vec_len l.listings ≡ l.shard;
  room : l.count ≤ vec_capacity l.listings;
  each : (k : ℕ) (closed : ClosedShard) (listing : Lists) → slice_get l.fn.self k ≡ Some closed →
      slice_get l.listings.items k ≡ Some listing → listing ≡ listing_of closed.closed;
  kept : (k : ℕ) (closed : ClosedShard) → k < l.shard → slice_get l.fn.self k ≡ Some closed →
      IsListing (listing_of closed.closed);
}
