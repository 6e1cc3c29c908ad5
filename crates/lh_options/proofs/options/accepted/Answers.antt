use Rattle.std.proofs.Common.{map}
use Rattle.std.proofs.lemmas.Result.{IfOk-weaker}
use Rattle.clap.specs.Words.{found_of, rows_of}
use Rattle.lh_options.proofs.Requests.{accepted-words, entered-from, failed-from, refuses-by, unaccepted-words}
use Rattle.lh_options.proofs.options.accepted.Goals as goal

pub returns-in-Err : goal.returns-in-Err
returns-in-Err c =
    let words = map (λ s. s.now) c.args.words.now in
    let failed = failed-from _ words c.in-Err.error c.in_ok-program.ensures.0 c.in-Err.ensures.kinds in
    IfOk-weaker c.unaccepted.result _ _ (λ found h. unaccepted-words words c.in-Err.error found failed h)
    c.unaccepted.ensures

pub returns-in-Some-objection_to : goal.returns-in-Some-objection_to
returns-in-Some-objection_to c =
    let words = map (λ s. s.now) c.args.words.now in
    let rows = rows_of (found_of c.in-Some.matches) in
    let entered = entered-from _ c.in-Ok.matches words c.in-Some.field-0-0.now rows
    c.in_ok-program.ensures.0 c.in-Ok.ensures.kinds c.in-Ok.ensures.matches c.in-Some.ensures.name
    c.in-Some.ensures.rows in
    refuses-by words _ rows entered c.in-Some-objection_to.ensures.some.1

pub returns-in-Some : goal.returns-in-Some
returns-in-Some c =
    let words = map (λ s. s.now) c.args.words.now in
    let entered = entered-from _ c.in-Ok.matches words c.in-Some.field-0-0.now (rows_of (found_of c.in-Some.matches))
    c.in_ok-program.ensures.0 c.in-Ok.ensures.kinds c.in-Ok.ensures.matches c.in-Some.ensures.name
    c.in-Some.ensures.rows in
    accepted-words words _ c.in-Some.matches entered c.in-None-objection_to.ensures.none
