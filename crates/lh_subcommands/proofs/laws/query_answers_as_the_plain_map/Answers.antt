use Rattle.lh_subcommands.proofs.ContinuedLaws.{query_law}
use Rattle.lh_subcommands.proofs.laws.query_answers_as_the_plain_map.Goals as goal

pub returns : goal.returns
returns c = query_law c.an_image_leads.ensures c.image_is_of_only_listing.ensures
