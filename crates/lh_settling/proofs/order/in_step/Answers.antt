use Rattle.std.proofs.Common.{◌∙◌, below_more}
use Rattle.lh_settling.proofs.Orders.{stamp_at}
use Rattle.lh_settling.proofs.order.in_step.Goals as goal

pub loop-place-preserved : goal.loop-place-preserved
loop-place-preserved c =
    below_more _ _ c.loop-place.invariant
    (stamp_at c.args.history.now c.loop-place.place c.index-history-place.result c.loop-place-test.true
    c.index-history-place.is ∙ c.if-act-place.false)
