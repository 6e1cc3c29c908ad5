use Rattle.std.proofs.Common.{not, map}
use Rattle.std.specs.Ordering.{nat_cmp}
use Rattle.std.specs.Cmp.Lexicographic.{slice_cmp}
use Rattle.std.specs.BTreeMap.{IsOrdered}
use Rattle.lh_bucket.specs.Leaving.{leads_to}
use Rattle.lh_bucket.proofs.PlainBuckets.{HasOf}
use Rattle.lh_bucket.proofs.plain_bucket.select.Given as goal

abbrev pub invariant-loop-key : goal.invariant-loop-key
invariant-loop-key l = record {
  has : HasOf (λ key. not (leads_to l.leaving.initial l.leaving.level l.leaving.number key)) l.records.entries
      (map (λ e. e.0.now) l.yielded) l.moved.entries;
  ordered : IsOrdered (slice_cmp nat_cmp) l.moved;
}
