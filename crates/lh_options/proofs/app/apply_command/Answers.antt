use Rattle.std.proofs.Common.{codes}
use Rattle.std.proofs.lemmas.Result.{IfOk-weaker}
use Rattle.lh_options.specs.Options.{option_rule, text_rule}
use Rattle.lh_options.proofs.CommandShapes.{option-reads}
use Rattle.lh_options.proofs.app.apply_command.Goals as goal

pub returns : goal.returns
returns c =
    let first =
    option-reads _ _ c.image_option.result _ (option_rule (codes "image") (codes "2") 1 2) c.in_ok-arg.ensures
    c.image_option.ensures.local c.image_option.ensures.rule c.in_ok-changing_command.ensures in
    IfOk-weaker c.arg-2.result _ _
    (λ m h.
    option-reads _ m c.text_flag.result _ text_rule h c.text_flag.ensures.local c.text_flag.ensures.rule first)
    c.arg-2.ensures
