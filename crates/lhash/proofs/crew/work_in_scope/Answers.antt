use Rattle.std.proofs.Common.{◌≡◌, ◌∙◌, Ok, Err, ap, sym, subst, arith}
use Rattle.std.specs.Prelude.{sum_by}
use Rattle.lhash.proofs.HandCalls.{as_many}
use Rattle.lhash.proofs.crew.work_in_scope.Goals.{in-Ok, in-Err}
use Rattle.lhash.proofs.crew.work_in_scope.Goals as goal

pub returns-clause-have : goal.returns-clause-have
returns-clause-have g c =
    elim c.match-started.branch [
      | in-Ok w ↦
          let have = g.T.SharedTable.have c.args.table.now in
          let started = w.in-Ok.ensures in
          let looked =
          subst (have started.hands.0 0) (sym w.hands-is) (w.look_on-seen.ensures.kept _ started.hands.1) in
          as_many have c.in_ok-all.all (omega (arith, started.hands.2, started.calls)) (omega (arith, started.calls))
          (c.in_ok-all.ensures.have _ _ looked)
      | in-Err w ↦
          let apart : Ok c.in_ok-seen.field-0 ≡ Err w.in-Err.fault = sym c.in_ok-seen.was ∙ w.seen-is in
          absurd cc
    ]
