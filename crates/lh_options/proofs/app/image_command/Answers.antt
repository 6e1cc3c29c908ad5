use Rattle.std.proofs.lemmas.Result.{IfOk-weaker}
use Rattle.clap.specs.Words.{new_app}
use Rattle.lh_options.specs.Options.{file_rule}
use Rattle.lh_options.specs.OptionSteps.{Reads}
use Rattle.lh_options.proofs.CommandShapes.{about-reads, example-reads, option-reads}
use Rattle.lh_options.proofs.app.image_command.Goals as goal

pub returns : goal.returns
returns c =
    let start : Reads (new_app c.args.name.now) c.after_help.result =
    example-reads _ _ _ _ c.after_help.ensures
    (about-reads _ _ _ _ c.about.ensures (c.new.ensures.app, c.new.ensures.local)) in
    IfOk-weaker c.arg.result _ _
    (λ m h.
    option-reads _ m c.file_operand.result _ file_rule h c.file_operand.ensures.local c.file_operand.ensures.rule
    start) c.arg.ensures
