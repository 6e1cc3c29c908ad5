use Rattle.lh_subcommands.proofs.Continuing.{both_read, followed, image_refused, script_refused}
use Rattle.lh_subcommands.proofs.continued.read_continued.Goals as goal

pub returns-in-Err : goal.returns-in-Err
returns-in-Err g c = image_refused c.args.notation c.in-Err.fault _ _ c.unreadable.ensures c.in-Err.ensures.exact

pub returns-in-Ok-read_script : goal.returns-in-Ok-read_script
returns-in-Ok-read_script g c =
    both_read c.args.notation c.in-Ok.listing c.in-Ok-read_script.calls.items _ _
    (followed _ _ _ c.in-Ok.ensures.exact c.in-Ok.ensures.rest) c.in-Ok-read_script.ensures

pub returns-in-Err-read_script : goal.returns-in-Err-read_script
returns-in-Err-read_script g c =
    script_refused c.args.notation c.in-Ok.listing c.in-Err-read_script.status _ _
    (followed _ _ _ c.in-Ok.ensures.exact c.in-Ok.ensures.rest) c.in-Err-read_script.ensures
