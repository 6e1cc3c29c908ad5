use Rattle.std.proofs.Common.{◌≡◌, List, ◌++◌, take}
use Rattle.lh_bucket.specs.declared.call.Reply.{Reply}
use Rattle.lh_settling.specs.Acts.{replies_of}
use Rattle.lhash.specs.Driven.{Counts}
use Rattle.lhash.proofs.driven.Driven.count_all.Given as goal

abbrev pub invariant-loop-stamp : goal.invariant-loop-stamp
invariant-loop-stamp l = record {
  counts : (replies : List Reply) → Counts replies l.fn.self →
      Counts (replies ++ take l.stamp (replies_of l.history)) l.self;
  records : l.self.records ≡ l.fn.self.records;
}
