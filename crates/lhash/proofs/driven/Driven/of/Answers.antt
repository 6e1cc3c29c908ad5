use Rattle.std.proofs.Common.{[], arith}
use Rattle.lhash.proofs.driven.Driven.of.Goals as goal

pub count_all-requires : goal.count_all-requires
count_all-requires c = ([], c.idle-driven.ensures.counts, omega (arith, c.len-few.ensures))

pub returns-clause-counts : goal.returns-clause-counts
returns-clause-counts c = c.count_all.ensures.counts [] c.idle-driven.ensures.counts
