use Rattle.std.proofs.Common.{map}
use Rattle.std.proofs.lemmas.Result.{IfOk-weaker}
use Rattle.clap.specs.Words.{found_of, rows_of}
use Rattle.lh_options.proofs.Accepted.{entered-applied, entered-drive, entered-image, entered-named, entered-none}
use Rattle.lh_options.proofs.Accepted.{entered-settings}
use Rattle.lh_options.proofs.Requests.{asked-answers, entered-from, failed-from, miswritten-answers, refusal-answers}
use Rattle.lh_options.proofs.Requests.{refusal-servable}
use Rattle.lh_options.proofs.options.request_of.Goals as goal

pub asked-requires-clause-named : goal.asked-requires-clause-named
asked-requires-clause-named c =
    let words = map (λ s. s.now) c.args.words.now in
    let entered = entered-from _ c.in-Ok.matches words c.in-Some.name.now (rows_of (found_of c.in-Some.matches.now))
    c.in_ok-program.ensures.0 c.in-Ok.ensures.kinds c.in-Ok.ensures.matches c.in-Some.ensures.name
    c.in-Some.ensures.rows in
    entered-named _ _ entered.asked

pub asked-requires-clause-settings : goal.asked-requires-clause-settings
asked-requires-clause-settings c =
    let words = map (λ s. s.now) c.args.words.now in
    let entered = entered-from _ c.in-Ok.matches words c.in-Some.name.now (rows_of (found_of c.in-Some.matches.now))
    c.in_ok-program.ensures.0 c.in-Ok.ensures.kinds c.in-Ok.ensures.matches c.in-Some.ensures.name
    c.in-Some.ensures.rows in
    entered-settings _ _ entered.asked

pub asked-requires-clause-drive : goal.asked-requires-clause-drive
asked-requires-clause-drive c =
    let words = map (λ s. s.now) c.args.words.now in
    let entered = entered-from _ c.in-Ok.matches words c.in-Some.name.now (rows_of (found_of c.in-Some.matches.now))
    c.in_ok-program.ensures.0 c.in-Ok.ensures.kinds c.in-Ok.ensures.matches c.in-Some.ensures.name
    c.in-Some.ensures.rows in
    entered-drive _ _ entered.asked

pub asked-requires-clause-image : goal.asked-requires-clause-image
asked-requires-clause-image c =
    let words = map (λ s. s.now) c.args.words.now in
    let entered = entered-from _ c.in-Ok.matches words c.in-Some.name.now (rows_of (found_of c.in-Some.matches.now))
    c.in_ok-program.ensures.0 c.in-Ok.ensures.kinds c.in-Ok.ensures.matches c.in-Some.ensures.name
    c.in-Some.ensures.rows in
    entered-image _ _ entered.asked

pub asked-requires-clause-applied : goal.asked-requires-clause-applied
asked-requires-clause-applied c =
    let words = map (λ s. s.now) c.args.words.now in
    let entered = entered-from _ c.in-Ok.matches words c.in-Some.name.now (rows_of (found_of c.in-Some.matches.now))
    c.in_ok-program.ensures.0 c.in-Ok.ensures.kinds c.in-Ok.ensures.matches c.in-Some.ensures.name
    c.in-Some.ensures.rows in
    entered-applied _ _ entered.asked

pub asked-requires-clause-none : goal.asked-requires-clause-none
asked-requires-clause-none c =
    let words = map (λ s. s.now) c.args.words.now in
    let entered = entered-from _ c.in-Ok.matches words c.in-Some.name.now (rows_of (found_of c.in-Some.matches.now))
    c.in_ok-program.ensures.0 c.in-Ok.ensures.kinds c.in-Ok.ensures.matches c.in-Some.ensures.name
    c.in-Some.ensures.rows in
    entered-none _ _ entered.asked

pub returns-in-Err-clause-answers : goal.returns-in-Err-clause-answers
returns-in-Err-clause-answers c =
    let words = map (λ s. s.now) c.args.words.now in
    let failed = failed-from _ words c.in-Err.error c.in_ok-program.ensures.0 c.in-Err.ensures.kinds in
    IfOk-weaker c.refusal.result _ _ (λ r h. refusal-answers words c.in-Err.error r failed h) c.refusal.ensures

pub returns-in-Err-clause-servable : goal.returns-in-Err-clause-servable
returns-in-Err-clause-servable c = IfOk-weaker c.refusal.result _ _ (refusal-servable _) c.refusal.ensures

pub returns-in-Some-objection_to-clause-answers : goal.returns-in-Some-objection_to-clause-answers
returns-in-Some-objection_to-clause-answers c =
    let words = map (λ s. s.now) c.args.words.now in
    let name = c.in-Some.name.now in
    let rows = rows_of (found_of c.in-Some.matches.now) in
    let entered = entered-from _ c.in-Ok.matches words name rows
    c.in_ok-program.ensures.0 c.in-Ok.ensures.kinds c.in-Ok.ensures.matches c.in-Some.ensures.name
    c.in-Some.ensures.rows in
    IfOk-weaker c.refused.result _ _
    (λ r h. miswritten-answers words name rows r entered c.in-Some-objection_to.ensures.some.1 h) c.refused.ensures

pub returns-in-Some-clause-answers : goal.returns-in-Some-clause-answers
returns-in-Some-clause-answers c =
    let words = map (λ s. s.now) c.args.words.now in
    let name = c.in-Some.name.now in
    let rows = rows_of (found_of c.in-Some.matches.now) in
    let entered = entered-from _ c.in-Ok.matches words name rows
    c.in_ok-program.ensures.0 c.in-Ok.ensures.kinds c.in-Ok.ensures.matches c.in-Some.ensures.name
    c.in-Some.ensures.rows in
    IfOk-weaker c.asked.result _ _
    (λ r h. asked-answers words name rows r entered c.in-None-objection_to.ensures.none h) c.asked.ensures.value
