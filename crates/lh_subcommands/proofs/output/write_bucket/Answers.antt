use Rattle.lh_subcommands.proofs.RecordLines.{record_begins, record_follows}
use Rattle.lh_subcommands.proofs.Sending.{on_err}
use Rattle.lh_subcommands.proofs.output.write_bucket.Goals as goal

pub returns-in_err-put_line-clause-err : goal.returns-in_err-put_line-clause-err
returns-in_err-put_line-clause-err g c before sent h =
    on_err c.from_residual.result
    (record_begins c.args.notation before _ sent c.args.bucket _ c.loop-place.place c.pair_at-pair.result
    c.pair_at-pair.ensures
    (c.in_err-put_line.ensures.err before _ (c.loop-place.invariant before sent h)))

pub loop-place-preserved : goal.loop-place-preserved
loop-place-preserved g c before sent h =
    record_follows c.args.notation before _ _ sent c.args.bucket _ c.loop-place.place c.pair_at-pair.result
    c.pair_at-pair.ensures
    (c.in_ok-put_line.ensures.ok before _ (c.loop-place.invariant before sent h))
