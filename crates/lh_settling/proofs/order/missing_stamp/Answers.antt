use Rattle.std.proofs.Common.{◌≡◌, ◌∙◌, ⊎_elim, length, sym, arith}
use Rattle.std.proofs.lemmas.List.{length-map}
use Rattle.lh_settling.specs.declared.act.ActLine.{ActLine}
use Rattle.lh_settling.specs.Acts.{stamps_of}
use Rattle.lh_settling.proofs.Orders.{none_missing, first_missing}
use Rattle.lh_settling.proofs.order.missing_stamp.Goals as goal

pub returns-then-same-drawn-clause-none : goal.returns-then-same-drawn-clause-none
returns-then-same-drawn-clause-none c =
    none_missing (stamps_of c.args.history.now) c.args.drawn c.in_step-same.result c.in_step-same.ensures.before
    (c.if-same-history.true ∙ sym (length-map c.args.history.now (λ (a : ActLine). a.stamp))) c.if-same-drawn.true

pub returns-else-same-history-clause-first : goal.returns-else-same-history-clause-first
returns-else-same-history-clause-first c =
    let many : length (stamps_of c.args.history.now) ≡ length c.args.history.now =
    length-map c.args.history.now (λ (a : ActLine). a.stamp) in
    first_missing
    (stamps_of c.args.history.now) c.args.drawn c.in_step-same.result c.min.result c.in_step-same.ensures.before
    (λ below. c.in_step-same.ensures.here (omega (arith, below, many)))
    (omega (arith, c.in_step-same.ensures.within, many))
    (λ all drawn. ⊎_elim
    (λ (w : (c.in_step-same.result ≡ length c.args.history.now)
    × (c.in_step-same.result ≡ c.args.drawn → ⊥)). w.1 drawn)
    (λ (w : c.in_step-same.result ≡ length c.args.history.now → ⊥). w (all ∙ many)) c.else-same-history.either)
    c.min.ensures
