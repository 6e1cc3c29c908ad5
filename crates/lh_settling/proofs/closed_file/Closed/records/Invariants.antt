use Rattle.std.proofs.Common.{◌≡◌, ◌-◌, ◌^◌, take, length}
use Rattle.std.specs.Prelude.{min, sum_by}
use Rattle.lh_settling.proofs.closed_file.Closed.records.Given as goal

abbrev pub invariant-loop-list : goal.invariant-loop-list
invariant-loop-list l = l.count ≡ min (sum_by (λ v. length v.items) (take l.list-index l.list-items)) (2 ^ 64 - 1)
