-- The lines of a step script.
use Rattle.std.specs.Prelude.{ℕ, ◌+◌, ◌-◌, ◌*◌, ◌&&◌, Bool, if◌then◌else◌, nat_le, List, [], ◌∷◌, Result, Ok, Err}
use Rattle.std.specs.Prelude.{codes}
use Rattle.lh_script.specs.Calls.{call}
use Rattle.lh_script.specs.Lines.{is_word}
use Rattle.lh_script.specs.Operands.{◌>>=◌}
use Rattle.lh_script.specs.Scripts.{Reading, unless_skipped}
use Rattle.lh_core.specs.declared.event.Event.{Event}
use Rattle.lh_core.specs.declared.event.Event.TheVariants as event
use Rattle.lh_script.specs.declared.fault.LineFault.{LineFault}
use Rattle.lh_script.specs.declared.fault.LineFault.TheVariants.{UnknownWord, WordCount, WorkerNumber}
use Rattle.lh_script.specs.declared.notation.Notation.{Notation}

-- whether a byte is a decimal digit: 0 to 9 have the codes from 48
abbrev pub is_decimal : ℕ → Bool
is_decimal c = nat_le 48 c && nat_le c 57

-- a number, which a worker has up to 15
abbrev pub up_to_15 : ℕ → Result ℕ LineFault
up_to_15 n = if nat_le n 15 then Ok n else Err WorkerNumber

-- the number of a worker: one or two decimal digits of a value up to 15
unfoldable pub worker : List ℕ → Result ℕ LineFault
worker [] = Err WorkerNumber
worker (c ∷ []) = if is_decimal c then Ok (c - 48) else Err WorkerNumber
worker (c ∷ d ∷ []) = if is_decimal c && is_decimal d then up_to_15 (10 * (c - 48) + (d - 48)) else Err WorkerNumber
worker (c ∷ d ∷ e ∷ cs) = Err WorkerNumber

-- the words behind `call`, the number of a worker and a call: fewer than two are too few before the verb is looked at
abbrev pub of_call : Notation → List (List ℕ) → Result Event LineFault
of_call notation [] = Err WordCount
of_call notation (w ∷ []) = Err WordCount
of_call notation (w ∷ verb ∷ rest) = call notation (worker w) verb rest >>= λ p. Ok (event.Call p.0 p.1)

-- words that are to be one, the number of a worker
unfoldable pub worker_alone : List (List ℕ) → Result ℕ LineFault
worker_alone (w ∷ []) = worker w
worker_alone _ = Err WordCount

-- an event of a worker, whose number is the one word
abbrev pub of_worker : (ℕ → Event) → List (List ℕ) → Result Event LineFault
of_worker event rest = worker_alone rest >>= λ n. Ok (event n)

-- an event of the splitter, behind which no word stands
unfoldable pub of_splitter : Event → List (List ℕ) → Result Event LineFault
of_splitter split [] = Ok split
of_splitter split (word ∷ rest) = Err WordCount

-- an event by the first word of its line and the words behind it
unfoldable pub event_of : Notation → List ℕ → List (List ℕ) → Result Event LineFault
event_of notation word rest =
    if is_word word (codes "call") then of_call notation rest
    else (if is_word word (codes "read") then of_worker (λ n. event.Read n) rest
    else (if is_word word (codes "lock") then of_worker (λ n. event.Lock n) rest
    else (if is_word word (codes "rehash") then of_worker (λ n. event.Rehash n) rest
    else (if is_word word (codes "act") then of_worker (λ n. event.Act n) rest
    else (if is_word word (codes "release") then of_worker (λ n. event.Release n) rest
    else (if is_word word (codes "split-begin") then of_splitter event.SplitBegin rest
    else (if is_word word (codes "split-lock") then of_splitter event.SplitLock rest
    else (if is_word word (codes "split-move") then of_splitter event.SplitMove rest
    else (if is_word word (codes "split-release") then of_splitter event.SplitRelease rest
    else (if is_word word (codes "split-point") then of_splitter event.SplitPoint rest
    else (if is_word word (codes "split-drop") then of_splitter event.SplitDrop rest
    else Err UnknownWord)))))))))))

-- a line that isn't skipped is an event
unfoldable pub step : Notation → Reading Event
step notation words = unless_skipped (event_of notation) words
