use Rattle.std.proofs.Common.{◌≡◌, ◌++◌, take}
use Rattle.lh_image.proofs.table.append.Given as goal

abbrev pub invariant-loop-place : goal.invariant-loop-place
invariant-loop-place l = l.pairs.items ≡ l.initial.pairs.items ++ take l.place l.page
