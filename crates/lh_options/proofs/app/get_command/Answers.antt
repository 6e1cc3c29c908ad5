use Rattle.std.proofs.Common.{codes}
use Rattle.std.proofs.lemmas.Result.{IfOk-weaker}
use Rattle.clap.specs.Words.{new_app}
use Rattle.lh_options.specs.Options.{keys_rule, needed_file_rule, text_rule}
use Rattle.lh_options.specs.OptionSteps.{Reads}
use Rattle.lh_options.proofs.CommandShapes.{about-reads, example-reads, option-reads}
use Rattle.lh_options.proofs.app.get_command.Goals as goal

pub returns : goal.returns
returns c =
    let start : Reads (new_app (codes "get")) c.after_help.result =
    example-reads _ _ _ _ c.after_help.ensures
    (about-reads _ _ _ _ c.about.ensures (c.new.ensures.app, c.new.ensures.local)) in
    let first =
    option-reads _ _ c.needed_file_operand.result _ needed_file_rule c.in_ok-arg.ensures
    c.needed_file_operand.ensures.local c.needed_file_operand.ensures.rule start in
    let second =
    option-reads _ _ c.keys_operand.result _ keys_rule c.in_ok-arg-2.ensures c.keys_operand.ensures.local
    c.keys_operand.ensures.rule first in
    IfOk-weaker c.arg-3.result _ _
    (λ m h.
    option-reads _ m c.text_flag.result _ text_rule h c.text_flag.ensures.local c.text_flag.ensures.rule second)
    c.arg-3.ensures
