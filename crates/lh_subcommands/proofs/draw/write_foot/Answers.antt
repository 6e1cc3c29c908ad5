use Rattle.std.proofs.Common.{◌≡◌, ◌<◌, refl, ap, arith}
use Rattle.std.proofs.lemmas.Result.{on_ok_weaker}
use Rattle.lh_draw.specs.Drawing.{drawing_foot_text, label_count}
use Rattle.lh_draw.specs.DrawingTexts.{cuts_text, label_text, mark_text}
use Rattle.lh_subcommands.proofs.Sending.{on_err, on_err_weaker}
use Rattle.lh_subcommands.proofs.Turns.{part_sent, part_stopped, stops_longer, text_sent, text_stopped, turn_begins}
use Rattle.lh_subcommands.proofs.Turns.{turn_ends, turn_goes_on, turn_stops}
use Rattle.lh_subcommands.proofs.draw.write_foot.Goals as goal

pub returns-in_err-put-clause-err : goal.returns-in_err-put-clause-err
unfolding drawing_foot_text
returns-in_err-put-clause-err g c before sent h =
    on_err c.from_residual.result
    (stops_longer before _ sent _ _
    (stops_longer before _ sent _ _
    (text_stopped before _ sent _ _ (ap cuts_text c.cuts_of.ensures) (c.in_err-put.ensures.err before sent h))))

pub loop-place-init : goal.loop-place-init
loop-place-init g c before sent h =
    turn_begins before _ _ _ _
    (text_sent before _ _ sent _ _ (ap cuts_text c.cuts_of.ensures) (c.in_ok-put.ensures.ok before sent h))

pub loop-place-preserved : goal.loop-place-preserved
loop-place-preserved g c before sent h =
    turn_goes_on before _ _ _ _ c.loop-place.place _ (ap label_text c.label_of.ensures)
    (c.in_ok-put-2.ensures.ok before _ (c.loop-place.invariant before sent h))

pub returns-in_err-put-2-clause-err : goal.returns-in_err-put-2-clause-err
unfolding drawing_foot_text
returns-in_err-put-2-clause-err g c before sent h =
    let here : c.loop-place.place < label_count c.args.listing.now =
    omega (arith, c.loop-place-test.true, c.label_count-place-end.ensures) in
    on_err c.from_residual-in_err-put-2.result
    (stops_longer before _ sent _ _
    (part_stopped before _ sent _ _ _ refl
    (turn_stops before _ _ _ _ c.loop-place.place _ here (ap label_text c.label_of.ensures)
    (c.in_err-put-2.ensures.err before _ (c.loop-place.invariant before sent h)))))

pub returns-clause-ok : goal.returns-clause-ok
unfolding drawing_foot_text
returns-clause-ok g c before sent h =
    let all : c.loop-place.place ≡ label_count c.args.listing.now =
    omega (arith, c.loop-place-test.false, c.loop-place.auto.place-end, c.label_count-place-end.ensures) in
    on_ok_weaker c.put-2.result (part_sent before _ _ sent _ _ _ (ap mark_text c.mark_of.ensures))
    (c.put-2.ensures.ok before _
    (part_sent before _ _ sent _ _ _ refl
    (turn_ends before _ _ _ _ _ _ all (c.loop-place.invariant before sent h))))

pub returns-clause-err : goal.returns-clause-err
unfolding drawing_foot_text
returns-clause-err g c before sent h =
    let all : c.loop-place.place ≡ label_count c.args.listing.now =
    omega (arith, c.loop-place-test.false, c.loop-place.auto.place-end, c.label_count-place-end.ensures) in
    on_err_weaker c.put-2.result (part_stopped before _ sent _ _ _ (ap mark_text c.mark_of.ensures))
    (c.put-2.ensures.err before _
    (part_sent before _ _ sent _ _ _ refl
    (turn_ends before _ _ _ _ _ _ all (c.loop-place.invariant before sent h))))
