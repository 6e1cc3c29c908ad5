-- What `serve` and `commands` answer to the same calls
use Rattle.std.specs.Prelude.{◌≡◌, ◌≢◌, ℕ, Bool, ◌≤◌, List, [], ◌∷◌, ◌++◌, Option, Some, None, Result, Ok, length}
use Rattle.std.specs.FinMap.{empty}
use Rattle.lh_addr.specs.Settings.{Settings}
use Rattle.lh_bucket.specs.declared.call.Call.{Call}
use Rattle.lh_core.specs.Serial.{size_from}
use Rattle.lh_script.specs.Commands.{command}
use Rattle.lh_script.specs.Scripts.{script}
use Rattle.lh_script.specs.Texts.{line, size_text}
use Rattle.lh_script.specs.declared.notation.Notation.{Notation}
use Rattle.lh_script.specs.declared.requests.ClientRequest.{ClientRequest}
use Rattle.lh_script.specs.declared.requests.ClientRequest.TheVariants as ask
use Rattle.lh_serving.specs.Answers.{asked_by, first_file}
use Rattle.lh_serving.specs.Conversations.{IsAnswered, Turn, beginning}
use Rattle.lh_serving.specs.Parts.{kept}
use Rattle.lh_serving.specs.Texts.{answer_line}
use Rattle.lh_serving.specs.declared.answer.LineAnswer.TheVariants as answer
use Rattle.lh_serving.specs.declared.answer.Fault.{Fault}
use Rattle.lh_serving.specs.declared.answer.Fault.TheVariants as fault
use Rattle.lh_subcommands.specs.Run.{commands_due}

-- a line asks for nothing, or for a call for which memory didn't run out
abbrev pub IsCalled : Notation → Result (Option ClientRequest) Fault → List ℕ → Type 0
IsCalled notation (Ok None) said = Unit {0}
IsCalled notation (Ok (Some (ask.Call call))) said = said ≢ answer_line notation (Some (answer.Fault fault.Memory))
IsCalled notation _ said = ⊥

-- so does each line
abbrev pub AreCalled : Notation → Bool → List Turn → Type 0
AreCalled notation shown [] = Unit {0}
AreCalled notation shown (turn ∷ turns) =
    AreCalled notation shown turns × IsCalled notation (asked_by notation shown (kept turn.said)) turn.answer

-- Where an input is no longer than a script may be, each of its lines is complete and asks for nothing or a call, and
-- memory didn't run out, `commands` has the answers written that `serve` gave from an empty file on, and then the
-- number of buckets: so the script that `commands` makes of it has no fault.
abbrev pub SameRepliesLaw : Type 0
SameRepliesLaw =
    (notation : Notation) (shown : Bool) (settings : Settings) (input answers : List ℕ)
    (h : IsAnswered (beginning notation shown (first_file settings)) input answers) →
    h.rest ≡ [] → AreCalled notation shown h.turns → length input ≤ 16777216 →
    (calls : List Call) × (script (command notation) input ≡ Ok calls)
    × (commands_due notation settings input
    ≡ Ok (answers ++ line (size_text (size_from settings empty settings.initial calls))))
