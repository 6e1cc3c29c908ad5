use Rattle.std.proofs.Common.{◌≡◌, map, take}
use Rattle.lh_settling.proofs.closed_file.copied.Given as goal

abbrev pub invariant-loop-list : goal.invariant-loop-list
invariant-loop-list l = map (λ v. v.items) l.copies.items ≡ take l.list-index (map (λ v. v.items) l.lists)
