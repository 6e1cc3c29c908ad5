use Rattle.std.proofs.Common.{map}
use Rattle.lh_core.specs.Kept.{IsEmptyRow}
use Rattle.lh_core.proofs.row.first_row.Given as goal

abbrev pub invariant-loop-number : goal.invariant-loop-number
invariant-loop-number g l = IsEmptyRow l.fn.config l.number (map g.B.Bucket.seen l.buckets.items)
