use Rattle.std.proofs.Common.{arith}
use Rattle.std.proofs.lemmas.Grind.{common_steps}
use Rattle.lhash.specs.Driven.{replies_text}
use Rattle.lhash.proofs.driven.RepliesTextDisplay.fmt.Goals as goal

pub returns-clause-writes : goal.returns-clause-writes
unfolding replies_text
returns-clause-writes g c = grind (arith, common_steps)
