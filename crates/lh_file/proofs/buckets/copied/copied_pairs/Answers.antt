use Rattle.std.proofs.Common.{◌<◌, length, arith}
use Rattle.lh_file.proofs.OfBuckets.Copies.{copied_more}
use Rattle.lh_file.proofs.buckets.copied.copied_pairs.Goals as goal

pub loop-place-preserved : goal.loop-place-preserved
loop-place-preserved g c =
    let pairs = c.args.bucket.now.pairs in
    let below : c.loop-place.place < length pairs = omega (arith, c.loop-place-test.true, c.len-count.ensures.value) in
    copied_more pairs c.loop-place.place c.pair_at.result below c.pair_at.ensures c.loop-place.invariant
    c.in_ok-push.ensures.items
