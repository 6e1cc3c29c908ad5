use Rattle.lh_file.proofs.OfCalls.AtOnce.{entered_of}
use Rattle.lh_file.proofs.OfHistory.Met.{met_law}
use Rattle.lh_file.proofs.laws.acts_meet_what_is_there.Goals as goal

pub returns-clause-met : goal.returns-clause-met
returns-clause-met c = met_law

pub returns-clause-entered : goal.returns-clause-entered
returns-clause-entered c = entered_of
