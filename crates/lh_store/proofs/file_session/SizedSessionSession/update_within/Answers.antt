use Rattle.std.proofs.Common.{lit<, arith, ap, length}
use Rattle.lh_store.proofs.Keeping.{idle_itself, at_once_keeps}
use Rattle.lh_store.proofs.file_session.SizedSessionSession.update_within.Goals as goal

pub returns-in_err-key-clause-err : goal.returns-in_err-key-clause-err
returns-in_err-key-clause-err g c = idle_itself _ _

pub returns-in_err-check_room-clause-err : goal.returns-in_err-check_room-clause-err
returns-in_err-check_room-clause-err g c = idle_itself _ _

pub update-requires : goal.update-requires
update-requires g c = (
  lit< tt,
  (
    c.self.invariant.of,
    (
      c.requires.callable,
      λ narrow was made makes.
          omega (
            arith,
            c.in_ok-check_room.ensures.ok narrow,
            c.requires.within was made makes,
            ap length c.bytes.ensures.value,
          ),
    ),
  ),
)

pub invariant_of-self-2 : goal.invariant_of-self-2
invariant_of-self-2 g c = at_once_keeps _ _ _ _ _ _ _ _ _ c.self.invariant c.update.ensures

pub returns-clause-made : goal.returns-clause-made
returns-clause-made g c =
    let e = c.in_ok-update.ensures in
    rw (← c.self.view_is, ← c.in_ok-key.ensures.ok)
    (record {
      was = e.was;
      call = e.call;
      reply = e.given;
      by = e.by;
      done = e.does;
      made = record { served = e.made.served; met = e.met };
    })
