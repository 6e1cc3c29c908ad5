-- The records of a db stream: two lines each, and a line behind the last.
use Rattle.std.specs.Prelude.{ℕ, if◌then◌else◌, List, Option, None, Some, Result, Ok, Err, codes}
use Rattle.lh_exchange.specs.DbTexts.{line_key, line_value}
use Rattle.lh_exchange.specs.StreamLines.{is_line, whole_line}
use Rattle.lh_exchange.specs.StreamParts.{Next, at_end, read_then}
use Rattle.lh_exchange.specs.declared.fault.StreamFault.{StreamFault}
use Rattle.lh_exchange.specs.declared.fault.StreamFault.TheVariants.{NoEnd}
use Rattle.lh_exchange.specs.declared.layout.Layout.{Layout}

-- what is read of a line and what stands behind it, where there is a line
abbrev pub with_line : {A : Type 0} → (List ℕ → List ℕ → Result A StreamFault) → Option (List ℕ × List ℕ) →
    Result A StreamFault
with_line read None = Err NoEnd
with_line read (Some cut) = read cut.0 cut.1

-- the record whose key was read, with the value on the first line of some bytes
abbrev pub with_value_line : Layout → List ℕ → List ℕ → Next
with_value_line layout key bytes =
    with_line (λ line behind. read_then (line_value layout line) (λ value.
    Ok (Some (record { key = key; value = value }, behind)))) (whole_line bytes)

-- the next record: a line of the key, and one of the value; `DATA=END` ends a stream
unfoldable pub next_db : Layout → List ℕ → Next
next_db layout bytes =
    with_line (λ line behind.
    if is_line line (codes "DATA=END") then at_end behind
    else read_then (line_key layout line) (λ key. with_value_line layout key behind)) (whole_line bytes)
