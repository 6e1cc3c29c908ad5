use Rattle.lh_core.proofs.Logs.Leading.{led_more}
use Rattle.lh_core.proofs.world.World.step.Goals as goal

pub returns-clause-led : goal.returns-clause-led
returns-clause-led g c =
    λ log h.
    led_more c.linear_hashing.ensures log c.args.self.now c.advance-entry.new.self c.args.event c.advance-entry.result
    c.is_kept.ensures c.is_kept-2.ensures c.advance-entry.ensures.step h
