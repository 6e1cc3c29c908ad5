use Rattle.std.proofs.Common.{rules}
use Rattle.lh_subcommands.proofs.input.take_steps.Goals as goal

pub returns : goal.returns
returns g c = record {
  read = c.in-Ok.ensures;
  told = record { world = c.in-Ok-run.ran.world; headline = search rules; memory = search rules };
  err = tt;
}
