use Rattle.std.proofs.Common.{subst}
use Rattle.lh_subcommands.specs.Devices.{TakesBeginning}
use Rattle.lh_subcommands.proofs.Sending.{on_err, stops_within}
use Rattle.lh_subcommands.proofs.export.send_enough.Goals as goal

pub returns-in_err-write_all-clause-err : goal.returns-in_err-write_all-clause-err
returns-in_err-write_all-clause-err g c before text h =
    on_err c.from_residual.result
    (stops_within _ _ _ _ _ h
    (subst (TakesBeginning (g.W.Write.contents c.args.writer.now) (g.W.Write.contents c.write_all.new.writer))
    c.as_slice.ensures.value c.in_err-write_all.ensures.err))
