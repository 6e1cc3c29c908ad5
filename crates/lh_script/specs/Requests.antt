-- The lines of a client: the calls of a command script, and what else may be asked.
use Rattle.std.specs.Prelude.{ℕ, if◌then◌else◌, List, [], ◌∷◌, Result, Ok, Err, codes}
use Rattle.lh_script.specs.Commands.{call_alone}
use Rattle.lh_script.specs.Lines.{is_word}
use Rattle.lh_script.specs.Operands.{◌>>=◌}
use Rattle.lh_script.specs.Scripts.{Reading, unless_skipped}
use Rattle.lh_script.specs.declared.fault.LineFault.{LineFault}
use Rattle.lh_script.specs.declared.fault.LineFault.TheVariants.{WordCount}
use Rattle.lh_script.specs.declared.notation.Notation.{Notation}
use Rattle.lh_script.specs.declared.requests.ClientRequest.{ClientRequest}
use Rattle.lh_script.specs.declared.requests.ClientRequest.TheVariants as ask

-- a request behind which no word stands
unfoldable pub if_alone : ClientRequest → List (List ℕ) → Result ClientRequest LineFault
if_alone request [] = Ok request
if_alone request (word ∷ rest) = Err WordCount

-- a request by the first word of its line and the words behind it
unfoldable pub request_of : Notation → List ℕ → List (List ℕ) → Result ClientRequest LineFault
request_of notation word rest =
    if is_word word (codes "buckets") then if_alone ask.Buckets rest
    else (if is_word word (codes "records") then if_alone ask.Records rest
    else (if is_word word (codes "image") then if_alone ask.Image rest
    else (call_alone notation word rest >>= λ call. Ok (ask.Call call))))

-- a line that isn't skipped is a request
unfoldable pub request : Notation → Reading ClientRequest
request notation words = unless_skipped (request_of notation) words
