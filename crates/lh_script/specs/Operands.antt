-- Keys and values as words of a line.
use Rattle.std.specs.Prelude.{ℕ, ◌==◌, ◌||◌, if◌then◌else◌, nat_lt, List, length, Option, None, Some, Result, Ok, Err}
use Rattle.lh_page.specs.Limits.{longest_key, longest_value}
use Rattle.lh_script.specs.Notations.{bad_in, byte_string}
use Rattle.lh_script.specs.declared.fault.LineFault.{LineFault}
use Rattle.lh_script.specs.declared.fault.LineFault.TheVariants.{KeyLength, ValueLength}
use Rattle.lh_script.specs.declared.notation.Notation.{Notation}

-- one reading after another: the first fault is the fault of both
infixl 10 ◌>>=◌
abbrev pub ◌>>=◌ : {A B : Type 0} → Result A LineFault → (A → Result B LineFault) → Result B LineFault
(Ok x) >>= f = f x
(Err fault) >>= f = Err fault

-- a key has at least one byte, and at most as many as the longest
abbrev pub key_from : LineFault → Option (List ℕ) → Result (List ℕ) LineFault
key_from bad None = Err bad
key_from bad (Some k) = if length k == 0 || nat_lt longest_key (length k) then Err (KeyLength (length k)) else Ok k

-- a value has at most as many bytes as the longest
abbrev pub value_from : LineFault → Option (List ℕ) → Result (List ℕ) LineFault
value_from bad None = Err bad
value_from bad (Some v) = if nat_lt longest_value (length v) then Err (ValueLength (length v)) else Ok v

-- the key that a word stands for
abbrev pub key : Notation → List ℕ → Result (List ℕ) LineFault
key notation word = key_from (bad_in notation) (byte_string notation word)

-- the value that a word stands for
abbrev pub value : Notation → List ℕ → Result (List ℕ) LineFault
value notation word = value_from (bad_in notation) (byte_string notation word)
