use Rattle.lh_image.proofs.Faults.FirstFaults.{first_fault_law, no_fault_law}
use Rattle.lh_image.proofs.laws.answered_fault_is_first.Goals as goal

pub returns-clause-first : goal.returns-clause-first
returns-clause-first c = first_fault_law

pub returns-clause-none : goal.returns-clause-none
returns-clause-none c = no_fault_law
