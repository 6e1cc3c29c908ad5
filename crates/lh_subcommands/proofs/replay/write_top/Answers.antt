use Rattle.std.proofs.Common.{◌≡◌, ◌<◌, refl, ap, arith}
use Rattle.lh_draw.specs.DrawingTexts.{canvas_text}
use Rattle.lh_replay.specs.Lanes.{lane_count}
use Rattle.lh_replay.specs.Picture.{top_text}
use Rattle.lh_replay.specs.PictureTexts.{heading_text, picture_caption_text}
use Rattle.lh_subcommands.proofs.Sending.{on_err}
use Rattle.lh_subcommands.proofs.Turns.{part_sent, part_stopped, stops_longer, text_sent, text_stopped, turn_begins}
use Rattle.lh_subcommands.proofs.Turns.{turn_ends, turn_goes_on, turn_stops}
use Rattle.lh_subcommands.proofs.replay.write_top.Goals as goal

pub returns-in_err-put-clause-err : goal.returns-in_err-put-clause-err
unfolding top_text
returns-in_err-put-clause-err g c before sent h =
    on_err c.from_residual.result
    (stops_longer before _ sent _ _
    (stops_longer before _ sent _ _
    (text_stopped before _ sent _ _ (ap canvas_text c.canvas_of.ensures)
    (c.in_err-put.ensures.err before sent h))))

pub returns-in_err-put-2-clause-err : goal.returns-in_err-put-2-clause-err
unfolding top_text
returns-in_err-put-2-clause-err g c before sent h =
    let canvas =
    text_sent before _ _ sent _ _ (ap canvas_text c.canvas_of.ensures)
    (c.in_ok-put.ensures.ok before sent h) in
    on_err c.from_residual-in_err-put-2.result
    (stops_longer before _ sent _ _
    (part_stopped before _ sent _ _ _ (ap picture_caption_text c.caption_of.ensures)
    (c.in_err-put-2.ensures.err before _ canvas)))

pub loop-lane-init : goal.loop-lane-init
loop-lane-init g c before sent h =
    let canvas =
    text_sent before _ _ sent _ _ (ap canvas_text c.canvas_of.ensures)
    (c.in_ok-put.ensures.ok before sent h) in
    turn_begins before _ _ _ _
    (part_sent before _ _ sent _ _ _ (ap picture_caption_text c.caption_of.ensures)
    (c.in_ok-put-2.ensures.ok before _ canvas))

pub loop-lane-preserved : goal.loop-lane-preserved
loop-lane-preserved g c before sent h =
    turn_goes_on before _ _ _ _ c.loop-lane.lane _ (ap heading_text c.heading_of.ensures)
    (c.in_ok-put-3.ensures.ok before _ (c.loop-lane.invariant before sent h))

pub returns-in_err-put-3-clause-err : goal.returns-in_err-put-3-clause-err
unfolding top_text
returns-in_err-put-3-clause-err g c before sent h =
    let here : c.loop-lane.lane < lane_count c.args.events.now =
    omega (arith, c.loop-lane-test.true, c.lane_count-lane-end.ensures.value) in
    on_err c.from_residual-in_err-put-3.result
    (part_stopped before _ sent _ _ _ refl
    (turn_stops before _ _ _ _ c.loop-lane.lane _ here (ap heading_text c.heading_of.ensures)
    (c.in_err-put-3.ensures.err before _ (c.loop-lane.invariant before sent h))))

pub returns-clause-ok : goal.returns-clause-ok
unfolding top_text
returns-clause-ok g c before sent h =
    let all : c.loop-lane.lane ≡ lane_count c.args.events.now =
    omega (arith, c.loop-lane-test.false, c.loop-lane.auto.lane-end, c.lane_count-lane-end.ensures.value) in
    part_sent before _ _ sent _ _ _ refl (turn_ends before _ _ _ _ _ _ all (c.loop-lane.invariant before sent h))
