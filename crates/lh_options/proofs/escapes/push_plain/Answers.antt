use Rattle.lh_options.proofs.Shown.{push-shown}
use Rattle.lh_options.proofs.escapes.push_plain.Goals as goal

pub returns : goal.returns
returns c = push-shown c.push.result _ _ c.args.c c.requires c.push.ensures.bytes
