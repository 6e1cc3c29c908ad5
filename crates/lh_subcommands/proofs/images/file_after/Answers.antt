use Rattle.lh_subcommands.proofs.Building.{led_from}
use Rattle.lh_subcommands.proofs.images.file_after.Goals as goal

pub returns : goal.returns
returns c = led_from _ _ _ _ _ _ _ c.in_ok-ran.ensures c.in_ok-listing.ensures.lists c.buckets.ensures.kept
