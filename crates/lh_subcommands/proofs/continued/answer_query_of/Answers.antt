use Rattle.lh_subcommands.proofs.Continuing.{queried_apart}
use Rattle.lh_subcommands.proofs.continued.answer_query_of.Goals as goal

pub returns : goal.returns
returns g c = queried_apart c.args.notation c.read_apart-read.result _ _ _ _ _ c.read_apart-read.ensures
    c.answer_read.ensures
