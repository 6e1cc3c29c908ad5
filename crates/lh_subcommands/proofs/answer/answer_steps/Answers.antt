use Rattle.std.proofs.Common.{rules}
use Rattle.lh_subcommands.proofs.Ending.{steps_begun, steps_told}
use Rattle.lh_subcommands.proofs.answer.answer_steps.Goals as goal

pub returns-in-Ok-write_entries : goal.returns-in-Ok-write_entries
returns-in-Ok-write_entries g c =
    steps_told c.args.notation c.args.config _ _ _ c.in-Ok.taken.events.items _ c.in-Ok.ensures.read (search rules)
    c.in-Ok-write_entries.ensures.ok

pub returns : goal.returns
returns g c =
    steps_begun c.args.notation c.args.config _ _ _ c.in-Ok.taken.events.items _ c.in-Ok.ensures.read (search rules)
    c.in-Err-write_entries.ensures.err
