use Rattle.std.proofs.Common.{codes}
use Rattle.std.proofs.lemmas.Result.{IfOk-weaker}
use Rattle.lh_options.specs.Options.{option_rule}
use Rattle.lh_options.proofs.CommandShapes.{option-reads}
use Rattle.lh_options.proofs.app.building_command.Goals as goal

pub returns : goal.returns
returns c =
    IfOk-weaker c.arg.result _ _
    (λ m h.
    option-reads _ m c.image_option.result _ (option_rule (codes "image") (codes "2") 1 2) h
    c.image_option.ensures.local c.image_option.ensures.rule c.in_ok-writing_command.ensures) c.arg.ensures
