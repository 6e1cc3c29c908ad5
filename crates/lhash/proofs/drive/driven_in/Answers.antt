use Rattle.std.proofs.Common.{◌∙◌, All, rules, arith, ap, length, refl, subst, sym}
use Rattle.std.proofs.lemmas.List.{length-map}
use Rattle.std.proofs.lemmas.Result.{IfOk-weaker}
use Rattle.lhash.proofs.Driving.{all_settled, driven_as}
use Rattle.lhash.proofs.HandCalls.{opened_calls}
use Rattle.lhash.specs.Crew.{HasTakenOne}
use Rattle.lhash.proofs.drive.driven_in.Goals as goal

pub work_in_threads-requires-clause-hands : goal.work_in_threads-requires-clause-hands
work_in_threads-requires-clause-hands g c lives outlive =
    opened_calls _ _ _ _ _ _ c.in_ok-file.ensures.opened c.requires.records

pub returns-clause-ok : goal.returns-clause-ok
returns-clause-ok g c =
    let acts = c.in_ok-closed.acts in
    let made =
    length-map acts (λ act. act.call) ∙ ap length c.in_ok-closed.ensures.acts ∙ c.in_ok-hand.ensures.have.acts in
    IfOk-weaker c.settled.result _ _
    (λ d h.
    driven_as _ _ _ _ _ _ d (search rules) made (ap length c.deref.ensures.value ∙ c.in_ok-hand.ensures.saw.count) h)
    c.settled.ensures.ok

pub settled-requires-clause-known : goal.settled-requires-clause-known
settled-requires-clause-known g c all even =
    let file = c.in_ok-file.file.state in
    let hand = c.in_ok-hand.hand in
    let have = c.in_ok-hand.ensures.have in
    all_settled c.snapshots_are_settled.ensures.settled file c.args.empty.now c.in_ok-closed.closed c.in_ok-closed.acts
    hand c.deref.result.now
    (ap (λ f. f.listing) c.in_ok-file.ensures.same ∙ c.requires.from)
    (c.in_ok-closed.ensures.history refl all even) have.share have.own.own
    (subst (All (HasTakenOne file hand)) (sym c.deref.ensures.value) c.in_ok-hand.ensures.saw.each)
