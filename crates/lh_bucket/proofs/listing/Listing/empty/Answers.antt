use Rattle.std.proofs.Common.{◌≡◌, ◌∙◌, List, sym, ap, subst, [], arith}
use Rattle.std.specs.Prelude.{replicate}
use Rattle.lh_page.specs.declared.pair.Pair.{Pair}
use Rattle.lh_bucket.specs.Listing.{IsListing}
use Rattle.lh_bucket.proofs.Listings.{listing_empty}
use Rattle.lh_bucket.proofs.listing.Listing.empty.Goals as goal

pub invariant_of-result : goal.invariant_of-result
invariant_of-result c =
    let all : c.loop-bucket._bucket ≡ c.args.config.initial =
    omega (arith, c.initial-bucket-end.ensures.value, c.loop-bucket-test.false, c.loop-bucket.auto._bucket-end) in
    subst (λ (lists : List (List Pair)). IsListing (record { config = c.args.config; lists = lists }))
    (sym (c.loop-bucket.invariant ∙ ap (λ n. replicate n []) all))
    (listing_empty c.args.config c.initial-bucket-end.ensures.in_range)
