use Rattle.lh_settling.proofs.act.Acts.len.Goals as goal

pub returns : goal.returns
returns c = cc
