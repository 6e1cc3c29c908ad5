use Rattle.std.proofs.lemmas.Result.{IfOk-weaker}
use Rattle.lh_options.specs.Options.{format_rule, text_rule}
use Rattle.lh_options.proofs.CommandShapes.{option-reads}
use Rattle.lh_options.proofs.app.dump_command.Goals as goal

pub returns : goal.returns
returns c =
    let first =
    option-reads _ _ c.format_option.result _ format_rule c.in_ok-arg.ensures c.format_option.ensures.local
    c.format_option.ensures.rule c.in_ok-image_command.ensures in
    IfOk-weaker c.arg-2.result _ _
    (λ m h.
    option-reads _ m c.text_flag.result _ text_rule h c.text_flag.ensures.local c.text_flag.ensures.rule first)
    c.arg-2.ensures
