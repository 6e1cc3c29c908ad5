use Rattle.lh_store.proofs.Keeping.{idle_itself, at_once_keeps}
use Rattle.lh_store.proofs.file_session.SizedSessionSession.upsert.Goals as goal

pub returns-in_err-key-clause-err : goal.returns-in_err-key-clause-err
returns-in_err-key-clause-err g c = idle_itself _ _

pub returns-in_err-value-clause-err : goal.returns-in_err-value-clause-err
returns-in_err-value-clause-err g c = idle_itself _ _

pub returns-in_err-check_fit-clause-err : goal.returns-in_err-check_fit-clause-err
returns-in_err-check_fit-clause-err g c = idle_itself _ _

pub invariant_of-self-2 : goal.invariant_of-self-2
invariant_of-self-2 g c = at_once_keeps _ _ _ _ _ _ _ _ _ c.self.invariant c.upsert.ensures

pub returns-clause-made : goal.returns-clause-made
returns-clause-made g c =
    let e = c.in_ok-upsert.ensures in
    rw (← c.self.view_is, ← c.in_ok-key.ensures.ok, ← c.in_ok-value.ensures.ok)
    (record {
      was = e.was;
      call = e.call;
      reply = e.given;
      by = e.by;
      done = e.does;
      made = record { served = e.made.served; met = e.met };
    })
