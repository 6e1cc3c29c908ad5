use Rattle.lh_subcommands.proofs.ContinuedLaws.{migrate_law}
use Rattle.lh_subcommands.proofs.laws.apply_without_calls_is_migrate.Goals as goal

pub returns : goal.returns
returns c = migrate_law c.an_image_leads.ensures c.image_is_of_only_listing.ensures c.census_counts_pages.ensures
