-- The listing whose turn it is has the first one's configuration, or is the first that has another.
use Rattle.std.proofs.Common.{◌≡◌, ℕ, length, Some, refl, sym, ap, ◌∙◌, subst, arith}
use Rattle.std.specs.List.{slice_get}
use Rattle.std.proofs.lemmas.Option.{same_Some, slice_get_read, slice_get_within}
use Rattle.lh_bucket.specs.Listing.{Lists}
use Rattle.lh_shards.proofs.Homes.{listing_more}
use Rattle.lh_shards.proofs.opening.first_other.Goals as goal
use Rattle.lh_shards.proofs.opening.first_other.Goals.{After-config-config, After-has_config}

first_at : (c : After-config-config) → slice_get c.args.listings.now 0 ≡ Some c.index-listings-0.result
first_at c =
    slice_get_read c.args.listings.now (length c.args.listings.now) 0 c.index-listings-0.result refl
    (omega (arith, c.requires.0)) c.index-listings-0.is

listing_at : (c : After-has_config) →
    slice_get c.args.listings.now c.loop-shard.shard ≡ Some c.index-listings-shard.result
listing_at c =
    slice_get_read c.args.listings.now (length c.args.listings.now) c.loop-shard.shard c.index-listings-shard.result
    refl (omega (arith, c.loop-shard-test.true)) c.index-listings-shard.is

pub returns-then-not-has_config-clause-some : goal.returns-then-not-has_config-clause-some
returns-then-not-has_config-clause-some c = record {
  first = c.index-listings-0.result;
  listing = c.index-listings-shard.result;
  first_at = first_at (goal.at.returns-then-not-has_config-clause-some c).After-config-config;
  at = listing_at (goal.at.returns-then-not-has_config-clause-some c).After-has_config;
  other = λ e. c.if-not-has_config.ensures.other (e ∙ sym c.config-config.ensures.value);
  before = λ k alike lt at. c.loop-shard.invariant k alike lt at ∙ c.config-config.ensures.value;
}

pub loop-shard-init : goal.loop-shard-init
loop-shard-init c k listing lt at =
    let first : k ≡ 0 = omega (arith, lt) in
    let same : c.index-listings-0.result ≡ listing =
    same_Some c.index-listings-0.result listing
    (sym (first_at (goal.at.loop-shard-init c).After-config-config)
    ∙ subst (λ j. slice_get c.args.listings.now j ≡ Some listing) first at) in
    ap (λ (l : Lists). l.config) (sym same) ∙ sym c.config-config.ensures.value

pub loop-shard-preserved : goal.loop-shard-preserved
loop-shard-preserved c =
    listing_more (λ (k : ℕ) (listing : Lists). listing.config ≡ c.config-config.result) c.args.listings.now
    c.loop-shard.shard c.index-listings-shard.result
    (listing_at (goal.at.loop-shard-preserved c).After-has_config) c.if-not-has_config.ensures.same
    c.loop-shard.invariant

pub returns-clause-none : goal.returns-clause-none
returns-clause-none c k first listing at_first at =
    let same : c.index-listings-0.result ≡ first =
    same_Some c.index-listings-0.result first
    (sym (first_at (goal.at.returns-clause-none c).After-config-config) ∙ at_first) in
    c.loop-shard.invariant k listing
    (omega (arith, slice_get_within c.args.listings.now k listing at, c.loop-shard-test.false)) at
    ∙ c.config-config.ensures.value ∙ ap (λ (l : Lists). l.config) same
