use Rattle.lh_subcommands.proofs.Inspecting.{undumped, dumped, dump_begun}
use Rattle.lh_subcommands.proofs.images.answer_dump.Goals as goal

pub returns-in-Err : goal.returns-in-Err
returns-in-Err g c = undumped c.args.notation c.in-Err.fault _ _ _ c.unreadable.ensures c.in-Err.ensures.exact

pub returns-in-Ok-write_records : goal.returns-in-Ok-write_records
returns-in-Ok-write_records g c = dumped c.args.notation c.in-Ok.listing _ _ _ c.in-Ok.ensures.exact
    c.in-Ok-write_records.ensures.ok

pub returns : goal.returns
returns g c = dump_begun c.args.notation c.in-Ok.listing _ _ _ c.in-Ok.ensures.exact c.in-Err-write_records.ensures.err
