use Rattle.lh_subcommands.proofs.Serving.{not_opened, is_opened}
use Rattle.lh_subcommands.proofs.serve.opened.Goals as goal

pub returns-in-Err-clause-err : goal.returns-in-Err-clause-err
returns-in-Err-clause-err g c = not_opened c.in-Err.fault _ _ c.unreadable.ensures c.in-Err.ensures.exact

pub returns-in-Ok-open_from-clause-ok : goal.returns-in-Ok-open_from-clause-ok
returns-in-Ok-open_from-clause-ok g c =
    is_opened c.args.notation c.args.is_terminal c.in-Ok.listing _ _ c.in-Ok.ensures.exact
    c.in-Ok-open_from.ensures.begun
