use Rattle.std.proofs.Common.{Ok, subst}
use Rattle.lh_image.specs.Indexed.{AnswersLookUp}
use Rattle.std.proofs.lemmas.Bool.{false≢true}
use Rattle.lh_image.specs.Layout.{header_of}
use Rattle.lh_image.specs.Version.{version_of}
use Rattle.lhf.proofs.Told.{ready_extent, ready_root, ready_version, told_none, told_some}
use Rattle.lhf.proofs.lhf_find.Goals as goal

pub returns-in_default-clause-found : goal.returns-in_default-clause-found
returns-in_default-clause-found c ready key l image =
    absurd
    (false≢true
    (c.in_default.ensures.known (version_of c.args.image.now.bytes.now) ready.numbers.version))

pub returns-in_default-root_of-clause-found : goal.returns-in_default-root_of-clause-found
returns-in_default-root_of-clause-found c ready key l image =
    absurd (false≢true (c.in_default-root_of.ensures.known (ready_extent c.args.image.now ready)))

pub returns-in-Ok-Some-clause-found : goal.returns-in-Ok-Some-clause-found
returns-in-Ok-Some-clause-found c ready key l image =
    let h = c.args.image.now in
    told_some c.what_is_found_stands_there.ensures.map h.bytes.now c.args.key.now l image c.in-Ok-Some.found.now
    (subst (λ o. AnswersLookUp h.bytes.now c.args.key.now (Ok o)) c.in-Ok-Some.field-0-is
    (c.in-Ok-Some.ensures.found (header_of h.bytes.now)
    (ready_version h ready c.in-Some.version c.in-Some.ensures.version)
    (ready_root h ready c.in-Some-root_of.root c.in-Some-root_of.ensures.root)))

pub returns-in-Ok-None-clause-found : goal.returns-in-Ok-None-clause-found
returns-in-Ok-None-clause-found c ready key l image =
    let h = c.args.image.now in
    told_none c.what_is_found_stands_there.ensures.map h.bytes.now c.args.key.now l image c.args.value.now.bytes.now
    (subst (λ o. AnswersLookUp h.bytes.now c.args.key.now (Ok o)) c.in-Ok-None.field-0-is
    (c.in-Ok-None.ensures.found (header_of h.bytes.now)
    (ready_version h ready c.in-Some.version c.in-Some.ensures.version)
    (ready_root h ready c.in-Some-root_of.root c.in-Some-root_of.ensures.root)))

pub returns-in-Err-clause-found : goal.returns-in-Err-clause-found
returns-in-Err-clause-found c ready key l image =
    let h = c.args.image.now in
    absurd
    (c.in-Err.ensures.found (header_of h.bytes.now) (ready_version h ready c.in-Some.version c.in-Some.ensures.version)
    (ready_root h ready c.in-Some-root_of.root c.in-Some-root_of.ensures.root))
