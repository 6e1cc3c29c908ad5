use Rattle.lh_subcommands.proofs.ContinuedLaws.{apply_law}
use Rattle.lh_subcommands.proofs.laws.apply_writes_what_is_left.Goals as goal

pub returns : goal.returns
returns c = apply_law c.an_image_leads.ensures c.image_is_of_only_listing.ensures
