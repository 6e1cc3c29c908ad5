use Rattle.std.proofs.lemmas.Result.{IfOk-weaker}
use Rattle.lh_options.specs.Options.{image_flag_rule, text_rule}
use Rattle.lh_options.proofs.CommandShapes.{option-reads}
use Rattle.lh_options.proofs.app.serve_command.Goals as goal

pub returns : goal.returns
returns c =
    let first =
    option-reads _ _ c.image_flag.result _ image_flag_rule c.in_ok-arg.ensures c.image_flag.ensures.local
    c.image_flag.ensures.rule c.in_ok-file_command.ensures in
    IfOk-weaker c.arg-2.result _ _
    (λ m h.
    option-reads _ m c.text_flag.result _ text_rule h c.text_flag.ensures.local c.text_flag.ensures.rule first)
    c.arg-2.ensures
