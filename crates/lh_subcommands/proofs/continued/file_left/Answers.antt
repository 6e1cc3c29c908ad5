use Rattle.lh_subcommands.proofs.Continuing.{left_of}
use Rattle.lh_subcommands.proofs.continued.file_left.Goals as goal

pub returns : goal.returns
returns c =
    left_of _ _ _ _ _ c.in_ok-ran.ensures.served c.in_ok-ran.ensures.unchanged c.in_ok-left.ensures.lists
    c.buckets.ensures.kept
