use Rattle.std.proofs.lemmas.Result.{IfOk-weaker}
use Rattle.clap.specs.Words.{new_app}
use Rattle.lh_options.specs.Options.{file_rule}
use Rattle.lh_options.specs.OptionSteps.{Reads}
use Rattle.lh_options.proofs.CommandShapes.{about-reads, example-reads, option-reads}
use Rattle.lh_options.proofs.app.file_command.Goals as goal

pub returns : goal.returns
returns c =
    let start : Reads (new_app c.args.name.now) c.after_help.result =
    example-reads _ _ _ _ c.after_help.ensures
    (about-reads _ _ _ _ c.about.ensures (c.new.ensures.app, c.new.ensures.local)) in
    let first =
    option-reads _ _ c.option.result _ _ c.in_ok-arg.ensures c.option.ensures.local c.option.ensures.rule start in
    let second =
    option-reads _ _ c.option-2.result _ _ c.in_ok-arg-2.ensures c.option-2.ensures.local c.option-2.ensures.rule
    first in
    let third =
    option-reads _ _ c.option-3.result _ _ c.in_ok-arg-3.ensures c.option-3.ensures.local c.option-3.ensures.rule
    second in
    let fourth =
    option-reads _ _ c.option-4.result _ _ c.in_ok-arg-4.ensures c.option-4.ensures.local c.option-4.ensures.rule
    third in
    IfOk-weaker c.arg-5.result _ _
    (λ m h.
    option-reads _ m c.file_operand.result _ file_rule h c.file_operand.ensures.local c.file_operand.ensures.rule
    fourth) c.arg-5.ensures
