use Rattle.std.proofs.lemmas.Result.{IfOk-at_ok, IfOk-weaker}
use Rattle.lh_options.specs.OptionSteps.{Reads}
use Rattle.lh_options.proofs.CommandShapes.{subcommand-reads}
use Rattle.lh_options.proofs.app.joined.Goals as goal

pub returns : goal.returns
returns c =
    IfOk-weaker c.subcommand.result _ _
    (λ all h app below k j.
    subcommand-reads _ _ all app below h k (IfOk-at_ok (Reads below) c.in_ok-added.was j))
    c.subcommand.ensures
