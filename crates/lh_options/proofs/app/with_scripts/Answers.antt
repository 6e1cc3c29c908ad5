use Rattle.std.proofs.lemmas.Result.{IfOk-weaker}
use Rattle.lh_options.specs.Options.{build_app, commands_app, replay_app, root_app, steps_app}
use Rattle.lh_options.proofs.app.with_scripts.Goals as goal

pub returns : goal.returns
returns c =
    let first = c.in_ok-app.ensures root_app commands_app c.root.ensures c.script_command.ensures in
    let second = c.in_ok-app-2.ensures _ steps_app first c.script_command-2.ensures in
    let third = c.in_ok-app-3.ensures _ replay_app second c.writing_command.ensures in
    IfOk-weaker c.joined-4.result _ _ (λ all h. h _ build_app third c.build_command.ensures) c.joined-4.ensures
