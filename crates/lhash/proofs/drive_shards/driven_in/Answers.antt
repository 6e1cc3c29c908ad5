use Rattle.std.proofs.Common.{◌≡◌, length, subst, arith}
use Rattle.std.proofs.lemmas.Result.{IfOk-weaker}
use Rattle.lhash.specs.DrivingShards.{IsDrivenShards, acts_in}
use Rattle.lhash.proofs.ShardHands.{acts_closed, begun_empty, closed_of, closed_settled, opened_calls}
use Rattle.lhash.proofs.drive_shards.driven_in.Goals as goal

pub work_in_threads-requires-clause-hands : goal.work_in_threads-requires-clause-hands
work_in_threads-requires-clause-hands g c lives outlive =
    let traced = c.in_ok-shards.ensures.traced in
    opened_calls _ _ _ traced (begun_empty _ _ _ _ c.requires.begun c.requires.empty traced.same).recording

pub totals-requires-clause-configs : goal.totals-requires-clause-configs
totals-requires-clause-configs g c =
    (closed_of _ _ _ _ _ _ c.in_ok-shards.ensures.traced
    (begun_empty _ _ _ _ c.requires.begun c.requires.empty c.in_ok-shards.ensures.traced.same)
    c.in_ok-hands.ensures.have.of c.in_ok-closed.ensures).configs

pub totals-requires-clause-known : goal.totals-requires-clause-known
totals-requires-clause-known g c =
    closed_settled _ _ _ _ _
    (begun_empty _ _ _ _ c.requires.begun c.requires.empty c.in_ok-shards.ensures.traced.same)
    c.in_ok-hands.ensures.have c.in_ok-closed.ensures

pub totals-requires-clause-few : goal.totals-requires-clause-few
totals-requires-clause-few g c =
    let have = c.in_ok-hands.ensures.have in
    omega (arith, acts_closed _ _ _ have.of c.in_ok-closed.ensures, have.acts)

pub returns-clause-ok : goal.returns-clause-ok
returns-clause-ok g c =
    let have = c.in_ok-hands.ensures.have in
    let of =
    closed_of _ _ _ _ _ _ c.in_ok-shards.ensures.traced
    (begun_empty _ _ _ _ c.requires.begun c.requires.empty c.in_ok-shards.ensures.traced.same)
    have.of c.in_ok-closed.ensures in
    let made : length c.args.calls.now ≡ acts_in c.in_ok-closed.closed =
    omega (arith, acts_closed _ _ _ have.of c.in_ok-closed.ensures, have.acts) in
    IfOk-weaker c.totals.result _ _
    (λ d driven. subst (λ n. IsDrivenShards c.args.config n c.args.calls.now d) of.count
    (driven c.args.calls.now made))
    c.totals.ensures.ok
