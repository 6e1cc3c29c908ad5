use Rattle.std.proofs.Common.{codes}
use Rattle.clap.specs.Words.{new_app}
use Rattle.lh_options.specs.OptionSteps.{Reads}
use Rattle.lh_options.proofs.CommandShapes.{about-reads, example-reads, required-reads, version-reads}
use Rattle.lh_options.proofs.app.root.Goals as goal

pub returns : goal.returns
returns c =
    let start : Reads (new_app (codes "lhash")) c.after_help.result =
    example-reads _ _ _ _ c.after_help.ensures
    (about-reads _ _ _ _ c.about.ensures (c.new.ensures.app, c.new.ensures.local)) in
    required-reads _ _ _ c.subcommand_required.ensures (version-reads _ _ _ _ c.version.ensures start)
