use Rattle.lh_file.specs.FileState.{IsOf}
use Rattle.lh_atomic_tests.proofs.tests.memory.made_by_keys.Given as goal

abbrev pub invariant-loop-letter : goal.invariant-loop-letter
invariant-loop-letter g l = IsOf l.file.state l.hand
