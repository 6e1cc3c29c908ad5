use Rattle.std.proofs.Common.{◌≡◌, ◌+◌, ◌++◌, ◌∷◌, ◌∙◌, [], arith, take, subst, sym}
use Rattle.std.proofs.lemmas.List.{length-take, take_all}
use Rattle.lh_bucket.specs.PlainMap.{outcome}
use Rattle.lh_core.specs.Serial.{IsAtRest, IsServedOn}
use Rattle.lh_core.proofs.Logs.Running.{taken}
use Rattle.lh_core.proofs.OneCaller.Serving.{served_grown, served_none, served_more, served_all}
use Rattle.lh_core.proofs.world.World.serve_all.Goals as goal

pub loop-call-init : goal.loop-call-init
loop-call-init g c =
    λ m stands count.
    rw c.in_ok-replies.ensures.items (served_none c.args.self.now m c.args.start c.requires.rest stands count)

pub serve_alone-requires : goal.serve_alone-requires
serve_alone-requires g c =
    let had = c.requires.records in
    (c.loop-call.invariant had.0 had.1 had.2).rest

pub grow_after-served-requires-clause-rest : goal.grow_after-served-requires-clause-rest
grow_after-served-requires-clause-rest g c =
    let had = c.requires.records in
    subst IsAtRest (sym c.in_ok-reply.ensures.ok.state) (c.loop-call.invariant had.0 had.1 had.2).rest

pub grow_after-served-requires-clause-few : goal.grow_after-served-requires-clause-few
grow_after-served-requires-clause-few g c =
    let had = c.requires.records in
    let h = c.loop-call.invariant had.0 had.1 had.2 in
    omega (arith, h.few, c.requires.room, length-take c.loop-call.call-index c.args.calls.now, c.loop-call-test.true)

pub loop-call-preserved : goal.loop-call-preserved
loop-call-preserved g c = λ m stands count.
    let done = take c.loop-call.call-index c.args.calls.now in
    let next : take (c.loop-call.call-index + 1) c.args.calls.now ≡ done ++ c.call-item.result ∷ [] =
    taken c.args.calls.now c.loop-call.call-index c.call-item.result c.loop-call-test.true c.call-item.is in
    let h = c.loop-call.invariant m stands count in
    rw (next, c.in_ok-push.ensures.items)
    (served_more c.args.self.now m c.args.start done c.loop-call.replies.items c.loop-call.self
    c.grow_after-served.new.self c.loop-call.records c.call-item.result c.grow_after-served.result.reply
    c.grow_after-served.result.records h c.grow_after-served.ensures.few
    (subst
    (λ r. IsServedOn c.loop-call.self (outcome m done) c.call-item.result c.grow_after-served.result.reply
    c.grow_after-served.result.records r c.grow_after-served.new.self) c.if-served.false
    (served_grown c.loop-call.self c.serve_alone.new.self c.grow_after-served.new.self (outcome m done)
    c.call-item.result c.in_ok-reply.reply c.grow_after-served.result.reply c.loop-call.records
    c.grow_after-served.result.records c.grow_after-served.result.split_refused c.in_ok-reply.ensures.ok h.stands
    h.count c.grow_after-served.ensures.reply c.grow_after-served.ensures.count c.grow_after-served.ensures.grown)))

pub returns-clause-served : goal.returns-clause-served
returns-clause-served g c = λ m stands count.
    let whole : take c.loop-call.call-index c.args.calls.now ≡ c.args.calls.now =
    take_all c.loop-call.call-index c.args.calls.now c.loop-call-test.false in
    served_all c.args.self.now m c.args.start c.args.calls.now c.loop-call.replies.items c.loop-call.self
    c.loop-call.records c.is_kept.ensures (rw whole at (c.loop-call.invariant m stands count))

pub returns-clause-unchanged : goal.returns-clause-unchanged
returns-clause-unchanged g c = λ none.
    let had = c.requires.records in
    let whole : take c.loop-call.call-index c.args.calls.now ≡ c.args.calls.now =
    take_all c.loop-call.call-index c.args.calls.now c.loop-call-test.false in
    (c.loop-call.invariant had.0 had.1 had.2).unchanged (whole ∙ none)
