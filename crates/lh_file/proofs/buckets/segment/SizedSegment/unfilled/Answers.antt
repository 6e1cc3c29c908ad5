use Rattle.std.proofs.Common.{arith}
use Rattle.lh_file.proofs.OfBuckets.Rows.{segment_made}
use Rattle.lh_file.proofs.buckets.segment.SizedSegment.unfilled.Goals as goal

pub returns : goal.returns
returns g c =
    segment_made c.args.config.now c.args.j c.initial.result c.start_of-first.result c.end_of-end.result
    c.loop-number.number c.loop-number.segment c.initial.ensures.value c.start_of-first.ensures c.end_of-end.ensures
    c.loop-number.invariant (omega (arith, c.loop-number-test.false))
