-- The hand stays one of the file, and no number counts twice.
use Rattle.std.specs.Prelude.{◌<◌}
use Rattle.lh_file.specs.FileState.{IsOf}
use Rattle.lh_small_tests.proofs.tests.narrow.round.Given as goal

abbrev pub invariant-loop-number : goal.invariant-loop-number
invariant-loop-number g l = record { of : IsOf l.file.state l.hand; due : l.due < l.number }
