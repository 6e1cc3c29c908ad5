-- A script read line by line.
use Rattle.std.proofs.Common.{◌≡◌, ℕ, ◌+◌, List, [], ◌∷◌, ◌++◌, Option, length, refl, ap, sym, ◌∙◌, arith, append_assoc}
use Rattle.std.proofs.Common.{append-nil}
use Rattle.std.specs.Prelude.{Result, Ok, Err, option_to_list}
use Rattle.lh_script.specs.Lines.{lines, words}
use Rattle.lh_script.specs.Scripts.{Reading, added, and_then, fault_in, from_line}
use Rattle.lh_script.specs.declared.fault.LineFault.{LineFault}
use Rattle.lh_script.specs.declared.fault.ScriptFault.{ScriptFault}
use Rattle.lh_script.specs.declared.fault.ScriptFault.TheVariants.{AtLine}
use Rattle.lh_script.proofs.Splitting.{lines_none}

-- statements before those of a script
abbrev pub after : {A : Type 0} → List A → Result (List A) ScriptFault → Result (List A) ScriptFault
after front (Ok statements) = Ok (front ++ statements)
after front (Err fault) = Err fault

after_nothing : {A : Type 0} (r : Result (List A) ScriptFault) → r ≡ after [] r
after_nothing (Ok xs) = refl
after_nothing (Err e) = refl

-- before the first line is read, no statements stand before those of the script
pub script_starts : {A : Type 0} (read : Reading A) (text : List ℕ) →
    from_line read 1 (lines text) ≡ after [] (from_line read 1 (lines text))
script_starts read text = after_nothing (from_line read 1 (lines text))

empty_ends : {A : Type 0} (read : Reading A) (n : ℕ) (front : List A) (rest : List ℕ) → length rest ≡ 0 →
    after front (from_line read n (lines rest)) ≡ Ok front
unfolding from_line
empty_ends read n front [] e = rw lines_none (ap (λ xs. Ok xs) (append-nil front))
empty_ends read n front (c ∷ cs) e = absurd (omega arith)

-- where no bytes are left, the script gives the statements that were read
pub script_ends : {A : Type 0} (read : Reading A) (n : ℕ) (all : Result (List A) ScriptFault) (front : List A)
    (rest : List ℕ) → all ≡ after front (from_line read n (lines rest)) → length rest ≡ 0 → all ≡ Ok front
script_ends read n all front rest h e = h ∙ empty_ends read n front rest e

faulty : {A : Type 0} (said : Result (Option A) LineFault) (n : ℕ) (front : List A) (r : Result (List A) ScriptFault)
    (fault : LineFault) → Err fault ≡ fault_in said → after front (and_then n said r) ≡ Err (AtLine n fault)
faulty (Ok found) n front r fault e = absurd (let bad : Err fault ≡ Ok tt = e in cc)
faulty (Err other) n front r fault e = let same : fault ≡ other = cc in ap (λ f. Err (AtLine n f)) (sym same)

-- where the next line is at fault, the script gives that fault with the line's number
pub line_faulty : {A : Type 0} (read : Reading A) (n : ℕ) (all : Result (List A) ScriptFault) (front : List A)
    (rest line behind : List ℕ) (fault : LineFault) → all ≡ after front (from_line read n (lines rest)) →
    lines rest ≡ line ∷ lines behind → Err fault ≡ fault_in (read (words line)) → all ≡ Err (AtLine n fault)
unfolding from_line
line_faulty read n all front rest line behind fault h e k =
    h ∙ rw e (faulty (read (words line)) n front (from_line read (n + 1) (lines behind)) fault k)

joined : {A : Type 0} (said : Result (Option A) LineFault) (n : ℕ) (front : List A) (r : Result (List A) ScriptFault) →
    Ok tt ≡ fault_in said → after front (and_then n said r) ≡ after (front ++ added said) r
joined (Ok found) n front (Ok xs) e = ap (λ ys. Ok ys) (sym (append_assoc front (option_to_list found) xs))
joined (Ok found) n front (Err fault) e = refl
joined (Err fault) n front r e = absurd (let bad : Ok tt ≡ Err fault = e in cc)

-- where it is not, what the line adds comes behind the statements that were read
pub line_read : {A : Type 0} (read : Reading A) (n : ℕ) (all : Result (List A) ScriptFault) (front grown : List A)
    (rest line behind : List ℕ) → all ≡ after front (from_line read n (lines rest)) →
    lines rest ≡ line ∷ lines behind → Ok tt ≡ fault_in (read (words line)) →
    grown ≡ front ++ added (read (words line)) → all ≡ after grown (from_line read (n + 1) (lines behind))
unfolding from_line
line_read read n all front grown rest line behind h e k g =
    h ∙ rw (e, g) (joined (read (words line)) n front (from_line read (n + 1) (lines behind)) k)

-- reading line by line: no statements at first, then those of each line, up to the first fault
pub ruleset line_by_line = (script_starts, script_ends, line_faulty, line_read)
