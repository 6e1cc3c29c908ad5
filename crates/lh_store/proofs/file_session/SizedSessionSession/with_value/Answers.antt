use Rattle.lh_store.proofs.Keeping.{idle_itself, makes_keeps}
use Rattle.lh_store.proofs.file_session.SizedSessionSession.with_value.Goals as goal

pub returns-in_err-key-clause-err : goal.returns-in_err-key-clause-err
returns-in_err-key-clause-err g c = idle_itself _ _

pub invariant_of-self-2 : goal.invariant_of-self-2
invariant_of-self-2 g c =
    let e = c.with_value.ensures.served in
    makes_keeps _ _ _ _ _ _ _ _ _ c.self.invariant e.1 e.3

pub returns-clause-made : goal.returns-clause-made
returns-clause-made g c =
    let e = c.in_ok-with_value.ensures.served in
    rw (← c.self.view_is, ← c.in_ok-key.ensures.ok) (e.0, record { served = e.1.served; entered = e.3 }, e.2)
