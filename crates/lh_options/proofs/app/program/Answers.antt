use Rattle.std.proofs.lemmas.Result.{IfOk-weaker}
use Rattle.lh_options.specs.Options.{apply_app, check_app, draw_app, drive_app, dump_app, get_app, load_app}
use Rattle.lh_options.specs.Options.{migrate_app, query_app, scripts_app, serve_app}
use Rattle.lh_options.proofs.app.program.Goals as goal

pub returns : goal.returns
returns c =
    let first =
    c.in_ok-app-2.ensures scripts_app load_app c.in_ok-app.ensures c.building_command.ensures in
    let second = c.in_ok-app-3.ensures _ check_app first c.image_command.ensures in
    let third = c.in_ok-app-4.ensures _ dump_app second c.dump_command.ensures in
    let fourth = c.in_ok-app-5.ensures _ drive_app third c.drive_command.ensures in
    let fifth = c.in_ok-app-6.ensures _ draw_app fourth c.changing_command.ensures in
    let sixth = c.in_ok-app-7.ensures _ migrate_app fifth c.changing_command-2.ensures in
    let seventh = c.in_ok-app-8.ensures _ query_app sixth c.query_command.ensures in
    let eighth = c.in_ok-app-9.ensures _ apply_app seventh c.apply_command.ensures in
    let ninth = c.in_ok-app-10.ensures _ serve_app eighth c.serve_command.ensures in
    IfOk-weaker c.joined-10.result _ _ (λ all h. h _ get_app ninth c.get_command.ensures) c.joined-10.ensures
