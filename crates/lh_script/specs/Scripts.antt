-- What a script gives: its statements, or its first fault.
use Rattle.std.specs.Prelude.{◌≡◌, ℕ, ◌+◌, if◌then◌else◌, nat_lt, List, [], ◌∷◌, ◌++◌, length, Option, None, Some}
use Rattle.std.specs.Prelude.{option_to_list, Result, Ok, Err}
use Rattle.lh_script.specs.Lines.{lines, words, is_comment}
use Rattle.lh_script.specs.Operands.{◌>>=◌}
use Rattle.lh_script.specs.declared.fault.LineFault.{LineFault}
use Rattle.lh_script.specs.declared.fault.ParseError.{ParseError}
use Rattle.lh_script.specs.declared.fault.ParseError.TheVariants.{Memory, Fault}
use Rattle.lh_script.specs.declared.fault.ScriptFault.{ScriptFault}
use Rattle.lh_script.specs.declared.fault.ScriptFault.TheVariants.{TooLong, AtLine}

-- how the words of a line are read: as a statement, as nothing, or as a fault
abbrev pub Reading : Type 0 → Type 0
Reading A = List (List ℕ) → Result (Option A) LineFault

-- a line without words, and one that is a comment, is skipped;
-- any other is read by its first word and the words behind it
abbrev pub unless_skipped : {A : Type 0} → (List ℕ → List (List ℕ) → Result A LineFault) → Reading A
unless_skipped read [] = Ok None
unless_skipped read (word ∷ rest) = if is_comment word then Ok None else (read word rest >>= λ s. Ok (Some s))

-- what a line adds to the statements before it
abbrev pub added : {A : Type 0} → Result (Option A) LineFault → List A
added (Ok statement) = option_to_list statement
added (Err fault) = []

-- whether a line is at fault, and how
abbrev pub fault_in : {A : Type 0} → Result (Option A) LineFault → Result (Unit {0}) LineFault
fault_in (Ok statement) = Ok tt
fault_in (Err fault) = Err fault

-- what line n says, and then what the lines behind it say, unless line n is at fault
abbrev pub and_then : {A : Type 0} → ℕ → Result (Option A) LineFault → Result (List A) ScriptFault →
    Result (List A) ScriptFault
and_then n (Err fault) behind = Err (AtLine n fault)
and_then n (Ok statement) (Err fault) = Err fault
and_then n (Ok statement) (Ok statements) = Ok (option_to_list statement ++ statements)

-- what lines say, of which the first has the number n
unfoldable pub from_line : {A : Type 0} → Reading A → ℕ → List (List ℕ) → Result (List A) ScriptFault
from_line read n [] = Ok []
from_line read n (l ∷ ls) = and_then n (read (words l)) (from_line read (n + 1) ls)

-- what a script says, which has 16,777,216 bytes at most
abbrev pub script : {A : Type 0} → Reading A → List ℕ → Result (List A) ScriptFault
script read text =
    if nat_lt 16777216 (length text) then Err TooLong else from_line read 1 (lines text)

-- what was read is what the script gives, unless memory ran out
abbrev pub Gives : {X A : Type 0} → (X → List A) → Result X ParseError → Result (List A) ScriptFault → Type 0
Gives view (Ok x) given = given ≡ Ok (view x)
Gives view (Err Memory) given = Unit {0}
Gives view (Err (Fault fault)) given = given ≡ Err fault
