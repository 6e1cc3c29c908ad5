use Rattle.std.proofs.Common.{◌≡◌, ◌+◌, ◌∷◌, refl, All, ap, subst, rules, arith}
use Rattle.std.specs.Prelude.{sum_by}
use Rattle.std.proofs.lemmas.Grind.{common_steps}
use Rattle.std.proofs.lemmas.List.Elements.{All-tail}
use Rattle.std.proofs.lemmas.List.Sums.{sum_by-cons}
use Rattle.std.specs.Vec.Iter.{into_iter_items}
use Rattle.std.specs.declared.result.Result.{Result}
use Rattle.std.specs.declared.thread.PromisedHandle.{PromisedHandle}
use Rattle.lhash.proofs.HandCalls.{as_many}
use Rattle.lhash.specs.declared.crew.WorkPromise.{WorkPromise}
use Rattle.lh_file.specs.declared.fault.FileFault.{FileFault}
use Rattle.lhash.proofs.crew.join_all.Goals as goal

pub loop-worker-init : goal.loop-worker-init
loop-worker-init g c = record {
  joined = 0;
  count = omega arith;
  have = λ calls made held.
      as_many (g.T.SharedTable.have c.args.table.now) c.args.hands (omega arith) (omega arith) held;
  saw = λ snapshots seen saw. saw;
  each = search rules;
}

pub loop-worker-preserved : goal.loop-worker-preserved
loop-worker-preserved g c =
    let Handle = PromisedHandle (Result g.row.T-Hands.Denot FileFault) (WorkPromise g.row.T.Denot) in
    let met = λ (worker : Handle). worker.promise.table.now ≡ c.args.table.now in
    let calls = λ (worker : Handle). worker.promise.calls in
    let e : into_iter_items c.loop-worker.worker-iterator ≡ c.in-Some.worker ∷ into_iter_items c.next.new.self =
    search rules in
    let cons = sum_by-cons calls c.in-Some.worker (into_iter_items c.next.new.self) in record {
      joined = c.loop-worker.invariant.joined + c.in-Some.worker.promise.calls;
      count = omega (arith, ap (sum_by calls) e, cons, c.loop-worker.invariant.count);
      have = λ first made held.
          as_many (g.T.SharedTable.have c.args.table.now) c.in_ok-hands.hands (omega arith) (omega arith)
          (c.in_ok-hands.ensures.have _ _ (c.loop-worker.invariant.have first made held));
      saw = λ snapshots seen saw. c.in_ok-hands.ensures.saw _ _ (c.loop-worker.invariant.saw snapshots seen saw);
      each =
          All-tail met c.in-Some.worker (into_iter_items c.next.new.self)
          (subst (All met) e c.loop-worker.invariant.each);
    }

pub join-requires-clause-hands : goal.join-requires-clause-hands
join-requires-clause-hands g c = (
  c.requires.hands.0 + c.loop-worker.invariant.joined,
  c.requires.hands.1 + c.loop-worker.invariant.joined,
  c.loop-worker.invariant.have _ _ c.requires.hands.2,
)

pub returns-clause-have : goal.returns-clause-have
returns-clause-have g c first made held =
    let calls = λ (worker : PromisedHandle (Result g.row.T-Hands.Denot FileFault) (WorkPromise g.row.T.Denot)).
    worker.promise.calls in
    let all : c.loop-worker.invariant.joined ≡ sum_by calls c.args.workers.items = grind (arith, common_steps) in
    subst (λ joined. g.T.SharedTable.have c.args.table.now (first + joined) (made + joined) c.loop-worker.hands) all
    (c.loop-worker.invariant.have first made held)
