use Rattle.std.proofs.Common.{ap}
use Rattle.lh_replay.specs.PictureTexts.{step_text}
use Rattle.lh_subcommands.proofs.Sending.{on_err}
use Rattle.lh_subcommands.proofs.Turns.{turn_begins, turn_goes_on, turn_stops}
use Rattle.lh_subcommands.proofs.replay.write_steps.Goals as goal

pub loop-row-init : goal.loop-row-init
loop-row-init g c before sent h = turn_begins before _ _ sent _ h

pub loop-row-preserved : goal.loop-row-preserved
loop-row-preserved g c before sent h =
    turn_goes_on before _ _ sent _ c.loop-row.row _ (ap step_text c.step_of.ensures)
    (c.in_ok-put.ensures.ok before _ (c.loop-row.invariant before sent h))

pub returns-in_err-put-clause-err : goal.returns-in_err-put-clause-err
returns-in_err-put-clause-err g c before sent h =
    on_err c.from_residual.result
    (turn_stops before _ sent _ _ c.loop-row.row _ c.loop-row-test.true (ap step_text c.step_of.ensures)
    (c.in_err-put.ensures.err before _ (c.loop-row.invariant before sent h)))
