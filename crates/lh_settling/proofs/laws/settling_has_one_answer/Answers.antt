use Rattle.lh_settling.proofs.Deciding.{answer_law}
use Rattle.lh_settling.proofs.FaultLaws.{fault_law, settled_law}
use Rattle.lh_settling.proofs.Verdicts.{history_law}
use Rattle.lh_settling.proofs.laws.settling_has_one_answer.Goals as goal

pub returns-clause-history : goal.returns-clause-history
returns-clause-history c = history_law

pub returns-clause-settled : goal.returns-clause-settled
returns-clause-settled c = settled_law c.address_is_only_bucket.ensures

pub returns-clause-fault : goal.returns-clause-fault
returns-clause-fault c = fault_law

pub returns-clause-answer : goal.returns-clause-answer
returns-clause-answer c = answer_law c.address_is_only_bucket.ensures
