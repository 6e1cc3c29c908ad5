use Rattle.std.proofs.Common.{◌∙◌, ◌∷◌, [], ◌++◌, ap}
use Rattle.lh_bucket.specs.Listing.{list_at}
use Rattle.lh_image.proofs.Bytes.Joining.{record_more}
use Rattle.lh_image.proofs.writing.listing_pages.put_pairs.Goals as goal

pub loop-place-preserved : goal.loop-place-preserved
loop-place-preserved c =
    c.push.ensures ∙ ap (λ pairs. pairs ++ c.pair_at.result ∷ []) c.loop-place.invariant
    ∙ record_more (list_at c.args.listing.now.lists c.args.bucket) c.args.start c.loop-place.place c.pair_at.result
    c.pair_at.ensures
