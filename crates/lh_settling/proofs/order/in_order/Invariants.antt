use Rattle.std.proofs.Common.{◌≡◌, map, take}
use Rattle.lh_settling.proofs.Orders.{act_at}
use Rattle.lh_settling.proofs.order.in_order.Given as goal

abbrev pub invariant-loop-place : goal.invariant-loop-place
invariant-loop-place l = l.history.items ≡ map (act_at l.acts) (take l.place-index l.place-items)
