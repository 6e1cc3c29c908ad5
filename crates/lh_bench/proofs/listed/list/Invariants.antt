-- There is a listing of each snapshot so far.
use Rattle.std.proofs.Common.{◌≡◌, ◌+◌, All, length}
use Rattle.std.specs.Vec.Iter.{into_iter_items}
use Rattle.lh_settling.specs.ClosedFile.{IsWhole}
use Rattle.lh_bench.proofs.listed.list.Given as goal

abbrev pub invariant-loop-snapshot : goal.invariant-loop-snapshot
invariant-loop-snapshot g l = record {
  many : length l.listings.items + length (into_iter_items l.snapshot-iterator)
      ≡ length (into_iter_items l.initial.snapshot-iterator);
  whole : All IsWhole (into_iter_items l.snapshot-iterator);
}
