-- The lines of a command script.
use Rattle.std.specs.Prelude.{ℕ, List, Result, Ok}
use Rattle.lh_script.specs.Calls.{call}
use Rattle.lh_script.specs.Operands.{◌>>=◌}
use Rattle.lh_script.specs.Scripts.{Reading, unless_skipped}
use Rattle.lh_bucket.specs.declared.call.Call.{Call}
use Rattle.lh_script.specs.declared.fault.LineFault.{LineFault}
use Rattle.lh_script.specs.declared.notation.Notation.{Notation}

-- nothing stands before the verb of a command
abbrev pub nothing : Result (Unit {0}) LineFault
nothing = Ok tt

-- a call, before whose verb nothing stands
abbrev pub call_alone : Notation → List ℕ → List (List ℕ) → Result Call LineFault
call_alone notation verb rest = call notation nothing verb rest >>= λ c. Ok c.1

-- a line that isn't skipped is a call
unfoldable pub command : Notation → Reading Call
command notation words = unless_skipped (call_alone notation) words
