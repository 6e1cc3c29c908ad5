-- The calls of a script: the table of their verbs.
use Rattle.std.specs.Prelude.{ℕ, if◌then◌else◌, List, [], ◌∷◌, Result, Ok, Err, codes}
use Rattle.lh_script.specs.Lines.{is_word}
use Rattle.lh_script.specs.Operands.{◌>>=◌, key, value}
use Rattle.lh_bucket.specs.declared.call.Call.{Call}
use Rattle.lh_bucket.specs.declared.call.Call.TheVariants.{Search, Insert, Delete, Replace}
use Rattle.lh_script.specs.declared.fault.LineFault.{LineFault}
use Rattle.lh_script.specs.declared.fault.LineFault.TheVariants.{UnknownWord, WordCount}
use Rattle.lh_script.specs.declared.notation.Notation.{Notation}

-- what stands before a verb, and the key that the word behind it stands for
abbrev pub then_key : {A : Type 0} → Notation → Result A LineFault → List ℕ → Result (A × List ℕ) LineFault
then_key notation before k = before >>= λ x. key notation k >>= λ bytes. Ok (x, bytes)

-- the same where one word is to be behind the verb: the words are counted before any is read
unfoldable pub with_key : {A : Type 0} → Notation → Result A LineFault → List (List ℕ) → Result (A × List ℕ) LineFault
with_key notation before (k ∷ []) = then_key notation before k
with_key notation before _ = Err WordCount

-- what stands before a verb, and the key and the value that the two words behind it stand for
abbrev pub then_pair : {A : Type 0} → Notation → Result A LineFault → List ℕ → List ℕ →
    Result (A × List ℕ × List ℕ) LineFault
then_pair notation before k v = before >>= λ x. key notation k >>= λ bytes. value notation v >>= λ more.
    Ok (x, bytes, more)

-- the same where two words are to be behind the verb: the words are counted before any is read
unfoldable pub with_pair : {A : Type 0} → Notation → Result A LineFault → List (List ℕ) →
    Result (A × List ℕ × List ℕ) LineFault
with_pair notation before (k ∷ v ∷ []) = then_pair notation before k v
with_pair notation before _ = Err WordCount

-- the call of a key
abbrev pub of_key : {A : Type 0} → (List ℕ → Call) → Notation → Result A LineFault → List (List ℕ) →
    Result (A × Call) LineFault
of_key call notation before rest = with_key notation before rest >>= λ o. Ok (o.0, call o.1)

-- the call of a key and a value
abbrev pub of_pair : {A : Type 0} → (List ℕ → List ℕ → Call) → Notation → Result A LineFault → List (List ℕ) →
    Result (A × Call) LineFault
of_pair call notation before rest = with_pair notation before rest >>= λ o. Ok (o.0, call o.1 o.2)

-- what stands before a verb, and the call of the verb and the words behind it
unfoldable pub call : {A : Type 0} → Notation → Result A LineFault → List ℕ → List (List ℕ) →
    Result (A × Call) LineFault
call notation before verb rest =
    if is_word verb (codes "search") then of_key (λ k. Search k) notation before rest
    else (if is_word verb (codes "insert") then of_pair (λ k v. Insert k v) notation before rest
    else (if is_word verb (codes "delete") then of_key (λ k. Delete k) notation before rest
    else (if is_word verb (codes "replace") then of_pair (λ k v. Replace k v) notation before rest
    else Err UnknownWord)))
