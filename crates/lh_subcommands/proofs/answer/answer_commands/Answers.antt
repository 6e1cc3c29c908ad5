use Rattle.lh_subcommands.proofs.Ending.{answered}
use Rattle.lh_subcommands.proofs.answer.answer_commands.Goals as goal

pub returns-in-Ok-serial : goal.returns-in-Ok-serial
returns-in-Ok-serial g c =
    answered c.args.notation c.args.config _ _ _ _ c.in-Ok.calls.items _ _ c.in-Ok.ensures c.tell.ensures
    (cc c.in-Ok-serial.ensures.replied) (cc c.in-Ok-serial.ensures.size)
