use Rattle.lh_file.specs.FileState.{IsOf}
use Rattle.lh_hands_tests.proofs.tests.threads.look.Given as goal

abbrev pub invariant-loop : goal.invariant-loop
invariant-loop l = IsOf l.file.state l.hand
