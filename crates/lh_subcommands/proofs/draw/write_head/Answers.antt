use Rattle.std.proofs.Common.{◌≡◌, ◌∙◌, ap}
use Rattle.std.proofs.lemmas.Result.{on_ok_weaker}
use Rattle.lh_bucket.specs.Listing.{size}
use Rattle.lh_draw.specs.Columns.{is_detailed, whole_tally}
use Rattle.lh_draw.specs.Drawing.{drawing_head_text, floor_of}
use Rattle.lh_draw.specs.DrawingTexts.{canvas_text, caption_text, legend_text, plot_text, title_text}
use Rattle.lh_subcommands.proofs.Sending.{on_err, on_err_weaker}
use Rattle.lh_subcommands.proofs.Turns.{part_sent, part_stopped, stops_longer, text_sent, text_stopped}
use Rattle.lh_subcommands.proofs.draw.write_head.Goals as goal

pub returns-in_err-put-clause-err : goal.returns-in_err-put-clause-err
unfolding drawing_head_text
returns-in_err-put-clause-err g c before sent h =
    on_err c.from_residual.result
    (stops_longer before _ sent _ _
    (stops_longer before _ sent _ _ (stops_longer before _ sent _ _ (stops_longer before _ sent _ _
    (text_stopped before _ sent _ _ (ap canvas_text c.canvas_of.ensures) (c.in_err-put.ensures.err before sent h))))))

pub returns-in_err-put-2-clause-err : goal.returns-in_err-put-2-clause-err
unfolding drawing_head_text
returns-in_err-put-2-clause-err g c before sent h =
    let canvas =
    text_sent before _ _ sent _ _ (ap canvas_text c.canvas_of.ensures) (c.in_ok-put.ensures.ok before sent h) in
    on_err c.from_residual-in_err-put-2.result
    (stops_longer before _ sent _ _ (stops_longer before _ sent _ _ (stops_longer before _ sent _ _
    (part_stopped before _ sent _ _ _ (ap title_text c.title_of.ensures)
    (c.in_err-put-2.ensures.err before _ canvas)))))

pub returns-in_err-put-3-clause-err : goal.returns-in_err-put-3-clause-err
unfolding drawing_head_text
returns-in_err-put-3-clause-err g c before sent h =
    let canvas =
    text_sent before _ _ sent _ _ (ap canvas_text c.canvas_of.ensures) (c.in_ok-put.ensures.ok before sent h) in
    let title =
    part_sent before _ _ sent _ _ _ (ap title_text c.title_of.ensures) (c.in_ok-put-2.ensures.ok before _ canvas) in
    on_err c.from_residual-in_err-put-3.result
    (stops_longer before _ sent _ _ (stops_longer before _ sent _ _
    (part_stopped before _ sent _ _ _ (ap legend_text c.legend_of.ensures.value)
    (c.in_err-put-3.ensures.err before _ title))))

pub returns-in_err-put-4-clause-err : goal.returns-in_err-put-4-clause-err
unfolding drawing_head_text
returns-in_err-put-4-clause-err g c before sent h =
    let canvas =
    text_sent before _ _ sent _ _ (ap canvas_text c.canvas_of.ensures) (c.in_ok-put.ensures.ok before sent h) in
    let title =
    part_sent before _ _ sent _ _ _ (ap title_text c.title_of.ensures) (c.in_ok-put-2.ensures.ok before _ canvas) in
    let legend =
    part_sent before _ _ sent _ _ _ (ap legend_text c.legend_of.ensures.value)
    (c.in_ok-put-3.ensures.ok before _ title) in
    let detailed : c.is_detailed-is_detailed.result ≡ is_detailed (size c.args.listing.now) =
    c.is_detailed-is_detailed.ensures ∙ ap is_detailed c.buckets.ensures.value in
    on_err c.from_residual-in_err-put-4.result
    (stops_longer before _ sent _ _
    (part_stopped before _ sent _ _ _ (λ i. caption_text (record { is_detailed = detailed i }))
    (c.in_err-put-4.ensures.err before _ legend)))

pub returns-clause-ok : goal.returns-clause-ok
unfolding drawing_head_text
returns-clause-ok g c before sent h =
    let canvas =
    text_sent before _ _ sent _ _ (ap canvas_text c.canvas_of.ensures) (c.in_ok-put.ensures.ok before sent h) in
    let title =
    part_sent before _ _ sent _ _ _ (ap title_text c.title_of.ensures) (c.in_ok-put-2.ensures.ok before _ canvas) in
    let legend =
    part_sent before _ _ sent _ _ _ (ap legend_text c.legend_of.ensures.value)
    (c.in_ok-put-3.ensures.ok before _ title) in
    let detailed : c.is_detailed-is_detailed.result ≡ is_detailed (size c.args.listing.now) =
    c.is_detailed-is_detailed.ensures ∙ ap is_detailed c.buckets.ensures.value in
    let caption =
    part_sent before _ _ sent _ _ _ (λ i. caption_text (record { is_detailed = detailed i }))
    (c.in_ok-put-4.ensures.ok before _ legend) in
    let floor_is : c.floor_of-floor.result ≡ floor_of (whole_tally c.args.listing.now).longest =
    c.floor_of-floor.ensures.value ∙ ap floor_of c.requires in
    on_ok_weaker c.put-5.result (part_sent before _ _ sent _ _ _ (λ i. plot_text (record { floor = floor_is i })))
    (c.put-5.ensures.ok before _ caption)

pub returns-clause-err : goal.returns-clause-err
unfolding drawing_head_text
returns-clause-err g c before sent h =
    let canvas =
    text_sent before _ _ sent _ _ (ap canvas_text c.canvas_of.ensures) (c.in_ok-put.ensures.ok before sent h) in
    let title =
    part_sent before _ _ sent _ _ _ (ap title_text c.title_of.ensures) (c.in_ok-put-2.ensures.ok before _ canvas) in
    let legend =
    part_sent before _ _ sent _ _ _ (ap legend_text c.legend_of.ensures.value)
    (c.in_ok-put-3.ensures.ok before _ title) in
    let detailed : c.is_detailed-is_detailed.result ≡ is_detailed (size c.args.listing.now) =
    c.is_detailed-is_detailed.ensures ∙ ap is_detailed c.buckets.ensures.value in
    let caption =
    part_sent before _ _ sent _ _ _ (λ i. caption_text (record { is_detailed = detailed i }))
    (c.in_ok-put-4.ensures.ok before _ legend) in
    let floor_is : c.floor_of-floor.result ≡ floor_of (whole_tally c.args.listing.now).longest =
    c.floor_of-floor.ensures.value ∙ ap floor_of c.requires in
    on_err_weaker c.put-5.result (part_stopped before _ sent _ _ _ (λ i. plot_text (record { floor = floor_is i })))
    (c.put-5.ensures.err before _ caption)
