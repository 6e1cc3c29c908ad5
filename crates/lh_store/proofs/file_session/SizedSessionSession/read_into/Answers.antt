use Rattle.lh_store.proofs.Keeping.{idle_itself, makes_keeps}
use Rattle.lh_store.proofs.file_session.SizedSessionSession.read_into.Goals as goal

pub returns-in_err-key-clause-err : goal.returns-in_err-key-clause-err
returns-in_err-key-clause-err g c = idle_itself _ _

pub invariant_of-self-2 : goal.invariant_of-self-2
invariant_of-self-2 g c =
    makes_keeps _ _ _ _ _ _ _ _ _ c.self.invariant c.read_into.ensures.served c.read_into.ensures.entered

pub returns-clause-made : goal.returns-clause-made
returns-clause-made g c =
    rw (← c.self.view_is, ← c.in_ok-key.ensures.ok)
    (record { served = c.in_ok-read_into.ensures.served.served; entered = c.in_ok-read_into.ensures.entered })
