-- The first listing with a record that has no room is the first of all, where those before it have room for theirs.
use Rattle.std.proofs.Common.{◌≡◌, ℕ, length, Some, refl, arith}
use Rattle.std.specs.List.{slice_get}
use Rattle.std.proofs.lemmas.Option.{slice_get_read, slice_get_within}
use Rattle.lh_bucket.specs.Listing.{Lists}
use Rattle.lh_file.specs.Buckets.Rooms.{FitListing}
use Rattle.lh_shards.proofs.Homes.{listing_more}
use Rattle.lh_shards.proofs.shards.SizedShards.fit_listings.Given.{Over}
use Rattle.lh_shards.proofs.shards.SizedShards.fit_listings.Goals as goal
use Rattle.lh_shards.proofs.shards.SizedShards.fit_listings.Goals.{After-fit_listing}

listing_at : (g : Over) (c : After-fit_listing g) →
    slice_get c.args.listings.now c.loop-shard.shard ≡ Some c.index-listings-shard.result
listing_at g c =
    slice_get_read c.args.listings.now (length c.args.listings.now) c.loop-shard.shard c.index-listings-shard.result
    refl (omega (arith, c.loop-shard-test.true)) c.index-listings-shard.is

pub returns-in-Err-clause-err : goal.returns-in-Err-clause-err
returns-in-Err-clause-err g c = record {
  listing = c.index-listings-shard.result;
  listing_is = listing_at g (goal.at.returns-in-Err-clause-err g c).After-fit_listing;
  first = c.in-Err.ensures.err;
  before = c.loop-shard.invariant;
}

pub loop-shard-preserved : goal.loop-shard-preserved
loop-shard-preserved g c =
    listing_more (λ (k : ℕ) (listing : Lists). FitListing g.row.ROOM listing)
    c.args.listings.now c.loop-shard.shard c.index-listings-shard.result
    (listing_at g (goal.at.loop-shard-preserved g c).After-fit_listing) c.in-Ok.ensures.fits c.loop-shard.invariant

pub returns-clause-fits : goal.returns-clause-fits
returns-clause-fits g c narrow k listing at =
    c.loop-shard.invariant k listing
    (omega (arith, slice_get_within c.args.listings.now k listing at, c.loop-shard-test.false)) at narrow
