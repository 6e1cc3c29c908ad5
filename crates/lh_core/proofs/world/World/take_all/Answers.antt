use Rattle.std.proofs.Common.{◌≡◌, ◌+◌, ◌++◌, ◌∷◌, [], take}
use Rattle.std.proofs.lemmas.List.{take_all}
use Rattle.lh_core.proofs.Logs.Running.{headline_none, headline_more, taken}
use Rattle.lh_core.proofs.world.World.take_all.Goals as goal

pub loop-event-init : goal.loop-event-init
loop-event-init g c = rw c.in_ok-entries.ensures.items (headline_none c.args.self.now c.requires)

pub loop-event-preserved : goal.loop-event-preserved
loop-event-preserved g c =
    let done = take c.loop-event.event-index c.args.events.now in
    let next : take (c.loop-event.event-index + 1) c.args.events.now ≡ done ++ c.event-item.result ∷ [] =
    taken c.args.events.now c.loop-event.event-index c.event-item.result c.loop-event-test.true c.event-item.is in
    rw (next, c.in_ok-push.ensures.items)
    (headline_more c.args.self.now.config done c.loop-event.entries.items c.loop-event.self c.step-entry.new.self
    c.event-item.result c.step-entry.result c.loop-event.invariant c.step-entry.ensures.config
    c.step-entry.ensures.led)

pub returns : goal.returns
returns g c =
    let whole : take c.loop-event.event-index c.args.events.now ≡ c.args.events.now =
    take_all c.loop-event.event-index c.args.events.now c.loop-event-test.false in
    rw whole at c.loop-event.invariant
