use Rattle.lh_subcommands.proofs.Continuing.{applied_behind}
use Rattle.lh_subcommands.proofs.continued.answer_apply.Goals as goal

pub returns : goal.returns
returns g c =
    applied_behind c.args.notation c.args.version c.read_continued-read.result _ _ _ _ c.read_continued-read.ensures
    c.apply_read.ensures
