use Rattle.lh_subcommands.proofs.Serving.{served_apart, unserved_apart}
use Rattle.lh_subcommands.proofs.serve.answer_serve_of.Goals as goal

pub returns-in-Err : goal.returns-in-Err
returns-in-Err g c = unserved_apart c.args.notation c.args.is_terminal c.in-Err.status _ _ _ _ c.in-Err.ensures.err

pub returns : goal.returns
returns g c =
    served_apart c.args.notation c.args.is_terminal c.in-Ok.talk c.converse.result _ _ _ _ _ c.in-Ok.ensures.ok
    c.converse.ensures
