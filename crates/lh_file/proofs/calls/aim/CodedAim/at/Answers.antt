use Rattle.lh_file.proofs.calls.aim.CodedAim.at.Goals as goal

pub returns-clause-level : goal.returns-clause-level
returns-clause-level c = cc
