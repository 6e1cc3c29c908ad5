use Rattle.lh_file.specs.FileState.{IsOf}
use Rattle.lh_atomic_tests.proofs.tests.atomic.work.Given as goal

abbrev pub invariant-loop-try : goal.invariant-loop-try
invariant-loop-try g l = IsOf l.file.state l.hand
