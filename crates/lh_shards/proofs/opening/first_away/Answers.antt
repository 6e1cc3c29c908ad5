-- The first record that is away in a listing is the first of all, where the listings before it are home.
use Rattle.std.proofs.Common.{◌≡◌, ℕ, length, Some, refl, arith}
use Rattle.std.specs.List.{slice_get}
use Rattle.std.proofs.lemmas.Option.{slice_get_read, slice_get_within}
use Rattle.lh_bucket.specs.Listing.{Lists, EachPlace}
use Rattle.lh_shards.specs.Opening.{IsHomeIn}
use Rattle.lh_shards.proofs.Homes.{listing_more}
use Rattle.lh_shards.proofs.opening.first_away.Goals as goal
use Rattle.lh_shards.proofs.opening.first_away.Goals.{After-away_of}

listing_at : (c : After-away_of) → slice_get c.args.listings.now c.loop-shard.shard ≡ Some c.index-listings-shard.result
listing_at c =
    slice_get_read c.args.listings.now (length c.args.listings.now) c.loop-shard.shard c.index-listings-shard.result
    refl (omega (arith, c.loop-shard-test.true)) c.index-listings-shard.is

pub returns-in-Some-clause-some : goal.returns-in-Some-clause-some
returns-in-Some-clause-some c = record {
  listing = c.index-listings-shard.result;
  at = listing_at (goal.at.returns-in-Some-clause-some c).After-away_of;
  here = c.in-Some.ensures.some;
  before = c.loop-shard.invariant;
}

pub loop-shard-preserved : goal.loop-shard-preserved
loop-shard-preserved c =
    listing_more (λ (k : ℕ) (listing : Lists). EachPlace (IsHomeIn (length c.args.listings.now) k) listing.lists)
    c.args.listings.now c.loop-shard.shard c.index-listings-shard.result
    (listing_at (goal.at.loop-shard-preserved c).After-away_of) c.in_default.ensures.none c.loop-shard.invariant

pub returns-clause-none : goal.returns-clause-none
returns-clause-none c k listing at =
    c.loop-shard.invariant k listing
    (omega (arith, slice_get_within c.args.listings.now k listing at, c.loop-shard-test.false)) at
