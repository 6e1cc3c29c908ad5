use Rattle.std.proofs.lemmas.Result.{IfOk-weaker}
use Rattle.lh_options.specs.Options.{text_rule}
use Rattle.lh_options.proofs.CommandShapes.{option-reads}
use Rattle.lh_options.proofs.app.drive_command.Goals as goal

pub returns : goal.returns
returns c =
    let first =
    option-reads _ _ c.option.result _ _ c.in_ok-arg.ensures c.option.ensures.local c.option.ensures.rule
    c.in_ok-file_command.ensures in
    let second =
    option-reads _ _ c.option-2.result _ _ c.in_ok-arg-2.ensures c.option-2.ensures.local c.option-2.ensures.rule
    first in
    let third =
    option-reads _ _ c.option-3.result _ _ c.in_ok-arg-3.ensures c.option-3.ensures.local c.option-3.ensures.rule
    second in
    IfOk-weaker c.arg-4.result _ _
    (λ m h.
    option-reads _ m c.text_flag.result _ text_rule h c.text_flag.ensures.local c.text_flag.ensures.rule third)
    c.arg-4.ensures
