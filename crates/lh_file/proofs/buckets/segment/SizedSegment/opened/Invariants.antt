use Rattle.std.proofs.Common.{◌≡◌, []}
use Rattle.lh_words.specs.Dealing.{undealt}
use Rattle.lh_file.proofs.OfBuckets.Rows.{ReachesTo}
use Rattle.lh_file.proofs.buckets.segment.SizedSegment.opened.Given as goal

abbrev pub invariant-loop-number : goal.invariant-loop-number
invariant-loop-number g l =
    (l.seat.table_id ≡ l.fn.seat.table_id)
    × (l.seat.me ≡ (undealt g.M.Mode.traced l.listing l.number, []))
    × ReachesTo l.segment l.first l.end l.number
