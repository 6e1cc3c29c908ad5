-- What was counted in a file that was closed whole
use Rattle.std.proofs.Common.{rules, refl}
use Rattle.use_counter.proofs.Counts.{counted}
use Rattle.use_counter.proofs.close.Goals as goal

pub returns : goal.returns
returns g c =
    counted c.updates_add_up.ensures.counter c.args.file.state.listing _ _ c.args.file.state c.args.hand
    (c.in-Ok.ensures.history refl (search rules) (search rules)) (search rules) c.requires
