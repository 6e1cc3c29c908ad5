use Rattle.std.proofs.Common.{map}
use Rattle.std.specs.Map.Iter.{deref}
use Rattle.lh_settling.proofs.Tables.{IsLeast}
use Rattle.lh_settling.proofs.plain_map.least_of.Given as goal

abbrev pub invariant-loop-name : goal.invariant-loop-name
invariant-loop-name l = IsLeast (map deref l.yielded) l.least
