use Rattle.std.proofs.Common.{sym, ap, ◌∙◌, lit<}
use Rattle.std.specs.Sync.RwLock.{read_guard_value}
use Rattle.std.proofs.lemmas.List.{take-map}
use Rattle.lh_words.specs.Plays.{Seated}
use Rattle.lh_file.proofs.words.Words.survey_held.Goals as goal

pub return_seats-requires : goal.return_seats-requires
return_seats-requires g c =
    let at = c.survey-acts.ensures.at ∙ (c.borrow_seats-count.ensures.at ∙ c.requires.at) in
    let brand = c.requires.brand (sym c.keeps_history.ensures ∙ c.if-not-keeps_history.false) in
    let parts =
    ap (λ (m : Seated). m.0.parts) c.survey-acts.ensures.told.1
    ∙ ap (λ (m : Seated). m.0.parts) c.borrow_seats-count.ensures.taken
    ∙ take-map read_guard_value c.borrow_seats-count.result c.args.guards.now in
    (lit< tt, (at, (brand, parts)))
