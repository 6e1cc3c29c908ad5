use Rattle.std.proofs.Common.{arith}
use Rattle.lh_core.proofs.Records.Counted.{counted}
use Rattle.lh_core.proofs.opened.count_before.Goals as goal

pub returns-clause-count : goal.returns-clause-count
returns-clause-count c =
    omega (
      arith,
      counted c.records_make_a_map.ensures.count c.args.listing.now c.buckets.ensures.kept,
      c.len-records.ensures,
    )
