use Rattle.lh_subcommands.proofs.Inspecting.{export_begun, exported, unexported}
use Rattle.lh_subcommands.proofs.export.answer_export.Goals as goal

pub returns-in-Err : goal.returns-in-Err
returns-in-Err g c = unexported c.args.format c.in-Err.fault _ _ _ c.unreadable.ensures c.in-Err.ensures.exact

pub returns-in-Ok-write_stream : goal.returns-in-Ok-write_stream
returns-in-Ok-write_stream g c =
    exported c.args.format c.in-Ok.listing _ _ _ c.in-Ok.ensures.exact c.in-Ok-write_stream.ensures.ok

pub returns : goal.returns
returns g c =
    export_begun c.args.format c.in-Ok.listing _ _ _ c.in-Ok.ensures.exact c.in-Err-write_stream.ensures.err
