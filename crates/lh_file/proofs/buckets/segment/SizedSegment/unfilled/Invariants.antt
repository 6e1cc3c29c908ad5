use Rattle.lh_file.proofs.OfBuckets.Rows.{ReachesTo}
use Rattle.lh_file.proofs.buckets.segment.SizedSegment.unfilled.Given as goal

abbrev pub invariant-loop-number : goal.invariant-loop-number
invariant-loop-number g l = ReachesTo l.segment l.first l.end l.number
