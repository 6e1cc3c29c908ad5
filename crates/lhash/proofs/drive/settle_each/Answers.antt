use Rattle.std.proofs.Common.{◌≡◌, ◌∙◌, ◌++◌, ◌∷◌, [], All, sym, ap, subst, take, arith}
use Rattle.std.proofs.lemmas.Grind.{take_at_read}
use Rattle.std.proofs.lemmas.List.{take_all}
use Rattle.std.proofs.lemmas.List.Elements.{All-push}
use Rattle.lh_bucket.specs.Listing.{Lists}
use Rattle.lh_settling.specs.Acts.{acts_before}
use Rattle.lh_settling.specs.ClosedFile.{ClosedFile}
use Rattle.lh_settling.specs.Settled.{IsSettled}
use Rattle.lhash.specs.Driving.{IsSettledBefore}
use Rattle.lhash.proofs.drive.settle_each.Goals as goal

pub loop-place-preserved : goal.loop-place-preserved
loop-place-preserved c =
    let met = IsSettledBefore c.args.empty.now.config c.args.acts.now in
    let taken = c.args.taken.now in
    let snapshot = c.index-taken-place.result in
    let config = subst (λ (s : ClosedFile). s.config ≡ c.args.empty.now.config) (sym c.index-taken-place.is)
    (c.requires.configs c.loop-place.place snapshot c.loop-place-test.true) in
    let history = c.in_ok-settle_snapshot.field-0 in
    let settled =
    subst (λ (l : Lists). IsSettled l snapshot (acts_before snapshot.stamps c.args.acts.now) history)
    c.requires.empty c.in_ok-settle_snapshot.ensures.ok in
    let more = (take_at_read taken c.loop-place.place snapshot c.loop-place-test.true).1
    ∙ ap (λ (s : ClosedFile). take c.loop-place.place taken ++ s ∷ []) (sym c.index-taken-place.is) in
    subst (All met) (sym more)
    (All-push met (take c.loop-place.place taken) snapshot c.loop-place.invariant (config, (history, settled)))

pub returns-clause-ok : goal.returns-clause-ok
returns-clause-ok c =
    let met = IsSettledBefore c.args.empty.now.config c.args.acts.now in
    subst (All met) (take_all c.loop-place.place c.args.taken.now (omega (arith, c.loop-place-test.false)))
    c.loop-place.invariant
