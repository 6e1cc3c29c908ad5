use Rattle.lh_file.specs.FileState.{IsOf}
use Rattle.lh_atomic_tests.proofs.tests.atomic.put_counters.Given as goal

abbrev pub invariant-loop-number : goal.invariant-loop-number
invariant-loop-number g l = IsOf l.file.state l.hand
