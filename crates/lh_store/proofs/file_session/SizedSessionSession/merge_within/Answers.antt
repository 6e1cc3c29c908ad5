use Rattle.std.proofs.Common.{lit<, arith, ap, length}
use Rattle.lh_store.proofs.Keeping.{idle_itself, at_once_keeps}
use Rattle.lh_store.proofs.file_session.SizedSessionSession.merge_within.Goals as goal

pub returns-in_err-key-clause-err : goal.returns-in_err-key-clause-err
returns-in_err-key-clause-err g c = idle_itself _ _

pub returns-in_err-first-clause-err : goal.returns-in_err-first-clause-err
returns-in_err-first-clause-err g c = idle_itself _ _

pub returns-in_err-check_room-clause-err : goal.returns-in_err-check_room-clause-err
returns-in_err-check_room-clause-err g c = idle_itself _ _

pub merge-requires : goal.merge-requires
merge-requires g c = (
  lit< tt,
  (
    c.self.invariant.of,
    (
      c.requires.callable,
      (
        λ narrow.
            omega (
              arith,
              c.in_ok-check_room.ensures.ok narrow,
              c.max.ensures,
              ap length c.bytes.ensures.value,
              ap length c.bytes-2.ensures.value,
            ),
        λ narrow was made makes.
            omega (
              arith,
              c.in_ok-check_room.ensures.ok narrow,
              c.requires.within was made makes,
              ap length c.bytes.ensures.value,
              ap length c.bytes-2.ensures.value,
            ),
      ),
    ),
  ),
)

pub invariant_of-self-2 : goal.invariant_of-self-2
invariant_of-self-2 g c = at_once_keeps _ _ _ _ _ _ _ _ _ c.self.invariant c.merge.ensures

pub returns-clause-made : goal.returns-clause-made
returns-clause-made g c =
    let e = c.in_ok-merge.ensures in
    rw (← c.self.view_is, ← c.in_ok-key.ensures.ok, ← c.in_ok-first.ensures.ok)
    (record {
      was = e.was;
      call = e.call;
      reply = e.given;
      by = e.by;
      done = e.does;
      made = record { served = e.made.served; met = e.met };
    })
