use Rattle.std.proofs.Common.{◌≡◌, ◌<◌, ap, arith}
use Rattle.std.specs.Prelude.{min}
use Rattle.std.proofs.lemmas.Result.{on_ok_weaker}
use Rattle.lh_bucket.specs.Listing.{list_at}
use Rattle.lh_draw.specs.Columns.{chain_length}
use Rattle.lh_draw.specs.Drawing.{chain_text}
use Rattle.lh_draw.specs.DrawingTexts.{bar_text, more_text}
use Rattle.lh_draw.specs.Sizes.{most_drawn}
use Rattle.lh_subcommands.proofs.Sending.{on_err, on_err_weaker}
use Rattle.lh_subcommands.proofs.Turns.{part_sent, part_stopped, stops_longer, turn_begins, turn_ends, turn_goes_on}
use Rattle.lh_subcommands.proofs.Turns.{turn_stops}
use Rattle.lh_subcommands.proofs.draw.write_chain.Goals as goal

pub loop-page-init : goal.loop-page-init
loop-page-init g c before sent h = turn_begins before _ _ sent _ h

pub loop-page-preserved : goal.loop-page-preserved
loop-page-preserved g c before sent h =
    turn_goes_on before _ _ sent _ c.loop-page.page _ (ap bar_text c.page_bar.ensures)
    (c.in_ok-put.ensures.ok before _ (c.loop-page.invariant before sent h))

pub returns-in_err-put-clause-err : goal.returns-in_err-put-clause-err
unfolding chain_text
returns-in_err-put-clause-err g c before sent h =
    let l = c.args.listing.now in
    let shown : c.loop-page.page < min (chain_length l.config.capacity (list_at l.lists c.args.bucket)) most_drawn =
    omega (arith, c.loop-page-test.true, c.min-pages.ensures, c.chain_length.ensures.value) in
    on_err c.from_residual.result
    (stops_longer before _ sent _ _
    (turn_stops before _ sent _ _ c.loop-page.page _ shown (ap bar_text c.page_bar.ensures)
    (c.in_err-put.ensures.err before _ (c.loop-page.invariant before sent h))))

pub returns-clause-ok : goal.returns-clause-ok
unfolding chain_text
returns-clause-ok g c before sent h =
    let l = c.args.listing.now in
    let all : c.loop-page.page ≡ min (chain_length l.config.capacity (list_at l.lists c.args.bucket)) most_drawn =
    omega (
      arith,
      c.loop-page-test.false,
      c.loop-page.auto.page-end,
      c.min-pages.ensures,
      c.chain_length.ensures.value,
    ) in
    on_ok_weaker c.put-2.result (part_sent before _ _ sent _ _ _ (ap more_text c.more_of.ensures))
    (c.put-2.ensures.ok before _ (turn_ends before _ _ sent _ _ _ all (c.loop-page.invariant before sent h)))

pub returns-clause-err : goal.returns-clause-err
unfolding chain_text
returns-clause-err g c before sent h =
    let l = c.args.listing.now in
    let all : c.loop-page.page ≡ min (chain_length l.config.capacity (list_at l.lists c.args.bucket)) most_drawn =
    omega (
      arith,
      c.loop-page-test.false,
      c.loop-page.auto.page-end,
      c.min-pages.ensures,
      c.chain_length.ensures.value,
    ) in
    on_err_weaker c.put-2.result (part_stopped before _ sent _ _ _ (ap more_text c.more_of.ensures))
    (c.put-2.ensures.err before _ (turn_ends before _ _ sent _ _ _ all (c.loop-page.invariant before sent h)))
