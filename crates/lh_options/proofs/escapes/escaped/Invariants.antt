use Rattle.std.proofs.Common.{◌≡◌, true}
use Rattle.std.specs.String.{string_bytes}
use Rattle.lh_options.specs.Escapes.{has_no_control}
use Rattle.lh_options.proofs.escapes.escaped.Given as goal

abbrev pub invariant-loop-c : goal.invariant-loop-c
invariant-loop-c l = has_no_control (string_bytes l.shown) ≡ true
