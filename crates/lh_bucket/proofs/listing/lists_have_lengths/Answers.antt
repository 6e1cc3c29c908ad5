use Rattle.std.proofs.Common.{◌≡◌, ◌∙◌, List, sym, map}
use Rattle.lh_page.specs.declared.pair.Pair.{Pair}
use Rattle.lh_page.specs.Records.{IsRecord}
use Rattle.lh_bucket.specs.Listing.{list_at}
use Rattle.lh_bucket.proofs.Listings.{list_read, all_more}
use Rattle.lh_bucket.proofs.listing.lists_have_lengths.Goals as goal

pub loop-place-preserved : goal.loop-place-preserved
loop-place-preserved c =
    let lists : List (List Pair) = map (λ v. v.items) c.args.lists.now in
    let read : list_at lists c.loop-place.place ≡ c.deref.result.now =
    list_read (λ v. v.items) c.args.lists.now c.loop-place.place c.index-lists-place.result c.loop-place-test.true
    c.index-lists-place.is ∙ sym c.deref.ensures.value in
    all_more IsRecord lists c.loop-place.place c.deref.result.now read c.have_lengths.ensures c.loop-place.invariant
