use Rattle.std.proofs.Common.{take}
use Rattle.lh_core.specs.Headline.{IsHeadline}
use Rattle.lh_core.proofs.world.World.take_all.Given as goal

abbrev pub invariant-loop-event : goal.invariant-loop-event
invariant-loop-event g l = IsHeadline l.fn.self.config (take l.event-index l.events) l.entries.items l.self
