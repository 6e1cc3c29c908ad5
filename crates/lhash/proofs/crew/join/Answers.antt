use Rattle.std.proofs.Common.{add_comm, refl, subst}
use Rattle.std.proofs.lemmas.Result.{IfOk-weaker}
use Rattle.lhash.proofs.HandCalls.{as_many}
use Rattle.lhash.proofs.crew.join.Goals as goal

pub returns-then-did_nothing-clause-have : goal.returns-then-did_nothing-clause-have
returns-then-did_nothing-clause-have g c =
    let have = g.T.SharedTable.have in
    let calls = c.args.worker.promise.calls in
    let part = subst (λ table. have table calls calls c.in_ok-part.part) c.requires.worker c.in_ok-part.ensures.0 in
    IfOk-weaker c.join-then-did_nothing.result _ _
    (λ all both others made held.
    as_many (have c.args.table.now) all (add_comm calls others) (add_comm calls made)
    (both calls calls others made part held))
    c.join-then-did_nothing.ensures.both
