use Rattle.lh_core.proofs.Logs.Histories.{spans_law}
use Rattle.lh_core.proofs.Logs.Spans.{open_call_law}
use Rattle.lh_core.proofs.laws.acts_lie_in_spans.Goals as goal

pub returns-clause-open_call : goal.returns-clause-open_call
returns-clause-open_call c = open_call_law

pub returns-clause-spans : goal.returns-clause-spans
returns-clause-spans c = spans_law c.linear_hashing.ensures
