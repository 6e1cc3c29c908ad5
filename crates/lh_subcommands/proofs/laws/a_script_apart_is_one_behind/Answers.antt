use Rattle.lh_subcommands.proofs.ContinuedLaws.{apart_law}
use Rattle.lh_subcommands.proofs.laws.a_script_apart_is_one_behind.Goals as goal

pub returns : goal.returns
returns c = apart_law c.an_image_leads.ensures
