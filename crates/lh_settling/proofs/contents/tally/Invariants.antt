use Rattle.std.proofs.Common.{List, ◌++◌, take}
use Rattle.lh_page.specs.declared.pair.Pair.{Pair}
use Rattle.lh_bucket.specs.PlainMap.{Records}
use Rattle.lh_settling.specs.Tally.{IsTally}
use Rattle.lh_settling.proofs.contents.tally.Given as goal

abbrev pub invariant-loop-pair : goal.invariant-loop-pair
invariant-loop-pair l = (m : Records) (done : List Pair) → IsTally m done l.initial.records l.initial.stray
    → IsTally m (done ++ take l.pair-index l.pairs) l.records l.stray
