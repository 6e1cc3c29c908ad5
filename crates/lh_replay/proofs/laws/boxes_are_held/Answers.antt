use Rattle.lh_replay.proofs.Holding.{held_law}
use Rattle.lh_replay.proofs.SplitHolding.{both_held_law}
use Rattle.lh_replay.proofs.laws.boxes_are_held.Goals as goal

pub returns-clause-by_worker : goal.returns-clause-by_worker
returns-clause-by_worker c = held_law

pub returns-clause-by_splitter : goal.returns-clause-by_splitter
returns-clause-by_splitter c = both_held_law
