use Rattle.lh_subcommands.proofs.Serving.{ends_opened, ends_unopened}
use Rattle.lh_subcommands.proofs.serve.answer_serve_from.Goals as goal

pub returns-in-Ok : goal.returns-in-Ok
returns-in-Ok g c =
    ends_opened c.args.notation c.args.is_terminal c.in-Ok.talk c.converse.result _ _ _ _ _ c.in-Ok.ensures.ok
    c.in-Ok.ensures.rest
    c.converse.ensures

pub returns-in-Err : goal.returns-in-Err
returns-in-Err g c = ends_unopened c.args.notation c.args.is_terminal c.in-Err.status _ _ _ c.in-Err.ensures.err
