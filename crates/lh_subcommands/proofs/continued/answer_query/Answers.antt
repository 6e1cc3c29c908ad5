use Rattle.lh_subcommands.proofs.Continuing.{queried_behind}
use Rattle.lh_subcommands.proofs.continued.answer_query.Goals as goal

pub returns : goal.returns
returns g c = queried_behind c.args.notation c.read_continued-read.result _ _ _ _ c.read_continued-read.ensures
    c.answer_read.ensures
