use Rattle.std.proofs.Common.{◌∙◌, ◌+◌, ap, arith}
use Rattle.std.specs.Prelude.{fold, max}
use Rattle.std.proofs.lemmas.List.{take_all}
use Rattle.lh_replay.specs.Lanes.{lane_count, lane_of}
use Rattle.lh_replay.proofs.lanes.lane_count.Goals as goal

pub returns-clause-value : goal.returns-clause-value
unfolding lane_count
returns-clause-value c =
    c.loop-event.invariant.0
    ∙ ap (fold (λ lanes event. max lanes (lane_of event + 1)) 1)
    (take_all c.loop-event.event-index c.args.events.now (omega (arith, c.loop-event-test.false)))
