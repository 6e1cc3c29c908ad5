use Rattle.lh_settling.proofs.Exact.{settled_exactly, due_exactly}
use Rattle.lh_settling.proofs.settling.settle.Goals as goal

pub returns-clause-settled : goal.returns-clause-settled
returns-clause-settled c =
    settled_exactly c.args.opening.now c.args.closed.now c.args.acts.now c.judge.ensures.kept
    c.settling_has_one_answer.ensures.settled
    c.judge.result c.judge.ensures.ok c.judge.ensures.err

pub returns-clause-fault : goal.returns-clause-fault
returns-clause-fault c =
    due_exactly c.args.opening.now c.args.closed.now c.args.acts.now c.judge.ensures.kept
    c.settling_has_one_answer.ensures.settled c.settling_has_one_answer.ensures.fault
    c.judge.result c.judge.ensures.ok c.judge.ensures.err
