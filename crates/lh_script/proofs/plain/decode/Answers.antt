use Rattle.std.proofs.Common.{Some, ap, sym, ◌∙◌}
use Rattle.lh_script.proofs.Characters.{dash_put, plain_escaped_dash}
use Rattle.lh_script.proofs.plain.decode.Goals as goal

pub returns-then-is_escaped_dash-clause-bytes : goal.returns-then-is_escaped_dash-clause-bytes
returns-then-is_escaped_dash-clause-bytes c le =
    rw c.set.ensures
    (plain_escaped_dash c.args.word.now (sym c.if-is_dash_word.ensures) (sym c.if-is_escaped_dash.ensures)
    ∙ ap (λ bs. Some bs) (sym (dash_put c.args.room.now le)))
