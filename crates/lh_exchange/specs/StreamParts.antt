-- What is read at the front of some bytes, and what stands behind it.
use Rattle.std.specs.Prelude.{◌≡◌, ℕ, List, [], ◌∷◌, Option, None, Some, Result, Ok, Err}
use Rattle.lh_page.specs.declared.pair.Pair.{Pair}
use Rattle.lh_exchange.specs.declared.fault.StreamFault.{StreamFault}
use Rattle.lh_exchange.specs.declared.fault.StreamFault.TheVariants.{BehindEnd}

-- what is read, and the bytes behind it; or a fault
abbrev pub Front : Type 0 → Type 0
Front A = Result (A × List ℕ) StreamFault

-- the next record and the bytes behind it, none at the end, or a fault
abbrev pub Next : Type 0
Next = Result (Option (Pair × List ℕ)) StreamFault

-- one reading after another: the first fault is the fault of both
abbrev pub read_then : {A B : Type 0} → Result A StreamFault → (A → Result B StreamFault) → Result B StreamFault
read_then (Ok x) f = f x
read_then (Err fault) f = Err fault

-- nothing stands behind the end
abbrev pub at_end : List ℕ → Next
at_end [] = Ok None
at_end (c ∷ cs) = Err BehindEnd

-- what a function read is this
abbrev pub IsFront : {A R : Type 0} → (R → List ℕ) → Result (A × R) StreamFault → Front A → Type 0
IsFront view (Ok x) front = front ≡ Ok (x.0, view x.1)
IsFront view (Err fault) front = front ≡ Err fault

-- the next record that a function read is this
abbrev pub IsNextRecord : {R : Type 0} → (R → List ℕ) → Result (Option (Pair × R)) StreamFault → Next → Type 0
IsNextRecord view (Ok None) next = next ≡ Ok None
IsNextRecord view (Ok (Some x)) next = next ≡ Ok (Some (x.0, view x.1))
IsNextRecord view (Err fault) next = next ≡ Err fault
