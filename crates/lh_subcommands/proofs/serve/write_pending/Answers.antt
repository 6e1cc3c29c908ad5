use Rattle.std.proofs.Common.{subst}
use Rattle.lh_subcommands.specs.Devices.{TakesBeginning}
use Rattle.lh_subcommands.proofs.Sending.{on_err}
use Rattle.lh_subcommands.proofs.Serving.{line_cut}
use Rattle.lh_subcommands.proofs.serve.write_pending.Goals as goal

pub returns-in_err-write_all-clause-err : goal.returns-in_err-write_all-clause-err
returns-in_err-write_all-clause-err g c =
    on_err c.from_residual.result
    (line_cut c.args.talk.now _ _
    (subst (TakesBeginning (g.W.Write.contents c.args.writer.now) (g.W.Write.contents c.write_all.new.writer))
    c.waiting.ensures c.in_err-write_all.ensures.err))
