use Rattle.std.proofs.Common.{◌∙◌, ap, codes, subst, sym, Some}
use Rattle.clap.specs.Words.{found_of, rows_of}
use Rattle.lh_addr.specs.Settings.{Settings}
use Rattle.lh_options.specs.Options.{IsMaxBelowInitial}
use Rattle.lh_options.proofs.Requests.{max-refused, number-at-most, settings-are}
use Rattle.lh_options.proofs.options.config_of.Goals as goal

pub returns-in-Ok-clause-some : goal.returns-in-Ok-clause-some
returns-in-Ok-clause-some c =
    let rows = rows_of (found_of c.args.matches.now) in
    settings-are rows c.number-initial.result c.number-capacity.result c.number-load.result c.number-max.result
    c.number-initial.ensures c.number-capacity.ensures c.number-load.ensures c.number-max.ensures
    ∙ ap (λ (s : Settings). Some s) (sym c.in-Ok.ensures.ok)

pub returns-in-Err-Max-clause-none : goal.returns-in-Err-Max-clause-none
returns-in-Err-Max-clause-none c =
    let rows = rows_of (found_of c.args.matches.now) in
    let is = settings-are rows c.number-initial.result c.number-capacity.result c.number-load.result c.number-max.result
    c.number-initial.ensures c.number-capacity.ensures c.number-load.ensures c.number-max.ensures in
    let high = number-at-most rows (codes "max") 1 65536 c.number-max.result c.requires.max c.number-max.ensures in
    subst IsMaxBelowInitial (sym is)
    (max-refused _ c.in-Err-Max.field-0 c.in-Err-Max.ensures.err c.in-Err-Max.field-0-is high)
