-- The hands so far are added, and there is room for the others.
use Rattle.std.proofs.Common.{◌≤◌, All, length}
use Rattle.std.specs.Prelude.{sum_by, fold}
use Rattle.std.specs.Vec.Iter.{into_iter_items}
use Rattle.lh_file.specs.FileState.{IsOf, MayBeJoined}
use Rattle.lh_file.specs.Words.HandState.{IsSame, united}
use Rattle.lh_file.proofs.file.SizedFile.add_all.Given as goal

abbrev pub invariant-loop-other : goal.invariant-loop-other
invariant-loop-other g l = record {
  of : IsOf l.self.state l.first;
  others : All (MayBeJoined l.self.state) (into_iter_items l.other-iterator);
  room : sum_by (λ h. length h.acts) (into_iter_items l.other-iterator) ≤ l.first.room;
  joined : IsSame (fold united l.initial.first (into_iter_items l.initial.other-iterator))
      (fold united l.first (into_iter_items l.other-iterator));
}
