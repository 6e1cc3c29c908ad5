use Rattle.lh_bucket.specs.Listing.{list_at}
use Rattle.lh_settling.proofs.Histories.{inserted_more}
use Rattle.lh_settling.proofs.replay.add_bucket.Goals as goal

pub loop-place-preserved : goal.loop-place-preserved
loop-place-preserved c =
    inserted_more c.args.records.now c.loop-place.records c.serve.new.self
    (list_at c.args.listing.now.lists c.args.bucket) c.loop-place.place c.pair_at-pair.result
    c.pair_at-pair.ensures c.loop-place.invariant c.in_ok-_reply.ensures.after
