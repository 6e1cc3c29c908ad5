-- The first record of a bucket that is away is the first of the listing, where those of the buckets before are home.
use Rattle.std.proofs.Common.{◌≡◌, ◌<◌, ◌≤◌, List, length, subst, arith}
use Rattle.lh_page.specs.declared.pair.Pair.{Pair}
use Rattle.lh_bucket.specs.Listing.{list_at}
use Rattle.lh_shards.specs.Opening.{IsAwayIn, IsHomeIn}
use Rattle.lh_shards.proofs.Homes.{each_more, each_place}
use Rattle.lh_shards.proofs.opening.away_of.Goals as goal

pub returns-in-Some-clause-some : goal.returns-in-Some-clause-some
returns-in-Some-clause-some c =
    let is : c.pairs_of.result.now ≡ list_at c.args.listing.now.lists c.loop-bucket.bucket = c.pairs_of.ensures.value in
    record {
      within = subst (λ (ps : List Pair). c.in-Some.place < length ps) is c.in-Some.ensures.within;
      fault =
          subst (λ (ps : List Pair). IsAwayIn c.args.shards c.args.shard c.loop-bucket.bucket ps c.in-Some.place) is
          c.in-Some.ensures.away;
      here =
          λ p lt.
          subst (λ (ps : List Pair). IsHomeIn c.args.shards c.args.shard c.loop-bucket.bucket ps p) is
          (c.in-Some.ensures.before p lt);
      before = c.loop-bucket.invariant;
    }

pub loop-bucket-preserved : goal.loop-bucket-preserved
loop-bucket-preserved c =
    each_more c.args.shards c.args.shard c.args.listing.now.lists c.loop-bucket.bucket c.pairs_of.result.now
    c.pairs_of.ensures.value c.in_default.ensures.none c.loop-bucket.invariant

pub returns-clause-none : goal.returns-clause-none
returns-clause-none c =
    let many : length c.args.listing.now.lists ≤ c.loop-bucket.bucket =
    omega (arith, c.loop-bucket-test.false, c.buckets-bucket-end.ensures.value) in
    each_place (IsHomeIn c.args.shards c.args.shard) c.args.listing.now.lists c.loop-bucket.bucket many
    c.loop-bucket.invariant
