use Rattle.std.proofs.Common.{◌∙◌, ◌<◌, ℕ, ap, subst}
use Rattle.lh_bucket.specs.Listing.{size}
use Rattle.lh_draw.specs.Columns.{column_count}
use Rattle.lh_draw.specs.DrawingTexts.{bar_text}
use Rattle.lh_subcommands.proofs.Sending.{on_err}
use Rattle.lh_subcommands.proofs.Turns.{turn_begins, turn_goes_on, turn_stops}
use Rattle.lh_subcommands.proofs.draw.write_groups.Goals as goal

pub loop-column-init : goal.loop-column-init
loop-column-init g c before sent h = turn_begins before _ _ sent _ h

pub loop-column-preserved : goal.loop-column-preserved
loop-column-preserved g c before sent h =
    turn_goes_on before _ _ sent _ c.loop-column.column _ (ap bar_text c.group_bar.ensures)
    (c.in_ok-put.ensures.ok before _ (c.loop-column.invariant before sent h))

pub returns-in_err-put-clause-err : goal.returns-in_err-put-clause-err
returns-in_err-put-clause-err g c before sent h =
    let columns_are = c.column_count-column-end.ensures.value ∙ ap column_count c.buckets.ensures.value in
    let here : c.loop-column.column < column_count (size c.args.listing.now) =
    subst (λ (n : ℕ). c.loop-column.column < n) columns_are c.loop-column-test.true in
    on_err c.from_residual.result
    (turn_stops before _ sent _ _ c.loop-column.column _ here (ap bar_text c.group_bar.ensures)
    (c.in_err-put.ensures.err before _ (c.loop-column.invariant before sent h)))
