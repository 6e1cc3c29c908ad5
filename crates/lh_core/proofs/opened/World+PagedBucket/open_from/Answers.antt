use Rattle.lh_core.proofs.Worlds.Opened.{opened_is}
use Rattle.lh_core.proofs.opened.World+PagedBucket.open_from.Goals as goal

pub returns : goal.returns
returns c =
    opened_is c.args.listing.now c.config.ensures.kept c.in_ok-buckets.buckets.items c.in_ok-buckets.ensures
    c.listing_is_placed.ensures
    c.config.result c.root-root.result c.config.ensures.value c.root-root.ensures.value
