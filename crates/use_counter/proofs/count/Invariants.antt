use Rattle.use_counter.specs.Counting.{IsCounter}
use Rattle.use_counter.proofs.count.Given as goal

abbrev pub invariant-loop-place : goal.invariant-loop-place
invariant-loop-place g l = IsCounter l.file.state l.hand
