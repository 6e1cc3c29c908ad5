use Rattle.lh_file.proofs.OfHistory.Met.{updates_law, counter_law}
use Rattle.lh_file.proofs.laws.updates_add_up.Goals as goal

pub returns-clause-updates : goal.returns-clause-updates
returns-clause-updates c = updates_law

pub returns-clause-counter : goal.returns-clause-counter
returns-clause-counter c = counter_law
