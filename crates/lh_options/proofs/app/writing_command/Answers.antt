use Rattle.std.proofs.lemmas.Result.{IfOk-weaker}
use Rattle.lh_options.specs.Options.{output_rule}
use Rattle.lh_options.proofs.CommandShapes.{option-reads}
use Rattle.lh_options.proofs.app.writing_command.Goals as goal

pub returns : goal.returns
returns c =
    IfOk-weaker c.arg.result _ _
    (λ m h.
    option-reads _ m c.output_option.result _ output_rule h c.output_option.ensures.local c.output_option.ensures.rule
    c.in_ok-file_command.ensures) c.arg.ensures
