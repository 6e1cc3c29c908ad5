use Rattle.std.proofs.Common.{◌≡◌, take}
use Rattle.std.specs.Prelude.{flat_map}
use Rattle.lh_settling.specs.Acts.{replies_of}
use Rattle.lhash.specs.Driven.{Counts}
use Rattle.lhash.proofs.driven.Driven.of_all.Given as goal

abbrev pub invariant-loop-history : goal.invariant-loop-history
invariant-loop-history l = record {
  counts : Counts (flat_map replies_of (take l.history-index l.histories)) l.driven;
  records : l.driven.records ≡ l.records;
}
