-- The tables are those of their shards, and records that stand in their own shards are the parts of the map of all.
use Rattle.std.proofs.Common.{rules}
use Rattle.lh_shards.proofs.Beginning.{brands_of, fit_of}
use Rattle.lh_shards.proofs.Wholes.{home_are_parts}
use Rattle.lh_shards.proofs.openings.Openings.of.Goals as goal

pub returns-clause-brands : goal.returns-clause-brands
returns-clause-brands c = brands_of _ _ _ c.in_ok-begun.ensures

pub returns-clause-fit : goal.returns-clause-fit
returns-clause-fit c room fit = fit_of room _ _ _ c.in_ok-begun.ensures fit

pub returns-clause-parts : goal.returns-clause-parts
returns-clause-parts c = home_are_parts c.args.listings.now (search rules)
