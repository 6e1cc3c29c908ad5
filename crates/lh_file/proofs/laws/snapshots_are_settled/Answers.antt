use Rattle.lh_file.proofs.OfSnapshots.Settled.{before_law, snapshot_law}
use Rattle.lh_file.proofs.laws.snapshots_are_settled.Goals as goal

pub returns-clause-before : goal.returns-clause-before
returns-clause-before c = before_law

pub returns-clause-settled : goal.returns-clause-settled
returns-clause-settled c = snapshot_law c.settling_has_one_answer.ensures.history c.acts_have_an_order.ensures
