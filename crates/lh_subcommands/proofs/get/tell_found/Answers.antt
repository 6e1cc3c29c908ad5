use Rattle.lh_subcommands.proofs.Getting.{told_all}
use Rattle.lh_subcommands.proofs.get.tell_found.Goals as goal

pub returns-in-Ok-write_found : goal.returns-in-Ok-write_found
returns-in-Ok-write_found g c = told_all c.args.notation c.args.replies.now _ _ _ c.told.ensures
    c.in-Ok-write_found.ensures.ok
