use Rattle.lh_subcommands.proofs.Continuing.{applied_apart}
use Rattle.lh_subcommands.proofs.continued.answer_apply_to.Goals as goal

pub returns : goal.returns
returns g c =
    applied_apart c.args.notation c.args.version c.read_apart-read.result _ _ _ _ _ c.read_apart-read.ensures
    c.apply_read.ensures
