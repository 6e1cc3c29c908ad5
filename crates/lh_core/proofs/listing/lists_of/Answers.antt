use Rattle.std.proofs.Common.{map, ap, ◌∙◌}
use Rattle.lh_core.proofs.Records.Listed.{lists_more, kept_more}
use Rattle.lh_core.proofs.listing.lists_of.Goals as goal

pub loop-bucket-preserved : goal.loop-bucket-preserved
loop-bucket-preserved g c = (
  ap (map (λ v. v.items)) c.in_ok-push.ensures.items
      ∙ lists_more (λ v. v.items) (λ b. (g.B.Bucket.seen b).pairs) c.loop-bucket.lists.items c.args.buckets.now
      c.loop-bucket.bucket-index c.in_ok-pairs.pairs c.bucket-item.result c.loop-bucket-test.true c.bucket-item.is
      c.in_ok-pairs.ensures.pairs c.loop-bucket.invariant.0,
  kept_more g.B.Bucket.seen c.args.buckets.now c.loop-bucket.bucket-index c.bucket-item.result c.loop-bucket-test.true
      c.bucket-item.is c.in_ok-pairs.ensures.kept c.loop-bucket.invariant.1,
)
