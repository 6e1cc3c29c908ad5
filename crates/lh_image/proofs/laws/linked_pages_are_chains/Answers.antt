use Rattle.lh_image.proofs.Paths.Paths.{paths_law}
use Rattle.lh_image.proofs.Paths.ShortPaths.{chain_law}
use Rattle.lh_image.proofs.laws.linked_pages_are_chains.Goals as goal

pub returns-clause-chains : goal.returns-clause-chains
returns-clause-chains c = chain_law

pub returns-clause-paths : goal.returns-clause-paths
returns-clause-paths c = paths_law
