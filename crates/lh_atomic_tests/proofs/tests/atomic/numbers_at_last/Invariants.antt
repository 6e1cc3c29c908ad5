use Rattle.lh_file.specs.FileState.{IsOf}
use Rattle.lh_atomic_tests.proofs.tests.atomic.numbers_at_last.Given as goal

abbrev pub invariant-loop-number : goal.invariant-loop-number
invariant-loop-number g l = IsOf l.file.state l.hand
