-- The header of a db stream.
use Rattle.std.specs.Prelude.{◌≡◌, ℕ, ◌+◌, ◌==◌, ◌||◌, if◌then◌else◌, nat_eq, suc, zero, List}
use Rattle.std.specs.Prelude.{length, Option, None, Some, Result, Ok, Err, codes}
use Rattle.std.specs.List.{list_any, starts_with}
use Rattle.lh_exchange.specs.StreamLines.{is_line, whole_line}
use Rattle.lh_exchange.specs.declared.fault.ExchangeFault.{ExchangeFault}
use Rattle.lh_exchange.specs.declared.fault.StreamFault.{StreamFault}
use Rattle.lh_exchange.specs.declared.fault.StreamFault.TheVariants.{Duplicates, NoEnd, NoKeys, NoLayout}
use Rattle.lh_exchange.specs.declared.fault.StreamFault.TheVariants.{NotAHeaderLine}
use Rattle.lh_exchange.specs.declared.fault.StreamFault.TheVariants.{UnknownLayout}
use Rattle.lh_exchange.specs.declared.header.HeaderLine.{HeaderLine}
use Rattle.lh_exchange.specs.declared.header.HeaderLine.TheVariants.{GoesOn, HeaderEnd}
use Rattle.lh_exchange.specs.declared.layout.Layout.{Layout}
use Rattle.lh_exchange.specs.declared.layout.Layout.TheVariants.{Bytevalue, Print}

-- a line that names something else, any `NAME=VALUE`, leaves it at what was named before
abbrev pub passed_over : Option Layout → List ℕ → Result HeaderLine StreamFault
passed_over named line = if list_any (λ c. c == 61) line then Ok (GoesOn named) else Err NotAHeaderLine

-- no line is let through that names an unknown layout, no keys, or several values a key
abbrev pub let_through : Option Layout → List ℕ → Result HeaderLine StreamFault
let_through named line =
    if starts_with nat_eq line (codes "format=") then Err UnknownLayout
    else (if is_line line (codes "keys=0") then Err NoKeys
    else (if is_line line (codes "duplicates=1") || is_line line (codes "dupsort=1") then Err Duplicates
    else passed_over named line))

-- what a line of the header says, where some lines before may have named how records are written: the last such line
-- counts
unfoldable pub header_line : Option Layout → List ℕ → Result HeaderLine StreamFault
header_line named line =
    if is_line line (codes "HEADER=END") then Ok HeaderEnd
    else (if is_line line (codes "format=bytevalue") then Ok (GoesOn (Some Bytevalue))
    else (if is_line line (codes "format=print") then Ok (GoesOn (Some Print))
    else let_through named line))

-- the records of a stream: how they are written, the number of their first line, where there are lines, and their bytes
abbrev pub Body : Type 0
Body = Layout × Option ℕ × List ℕ

-- a fault in a line of the header
abbrev pub header_fault : ℕ → StreamFault → ExchangeFault
header_fault line fault = record { «record» = 0; line = Some line; kind = fault }

-- the records behind the header's end, if the header named how they are written
abbrev pub behind_header : Option Layout → ℕ → List ℕ → Result Body ExchangeFault
behind_header None line bytes = Err (header_fault line NoLayout)
behind_header (Some layout) line bytes = Ok (layout, Some (line + 1), bytes)

-- the header from what a line says on: `go` reads what stands behind that line
abbrev pub header_said : Result HeaderLine StreamFault → Option Layout → ℕ → List ℕ →
    (Option Layout → List ℕ → Result Body ExchangeFault) → Result Body ExchangeFault
header_said (Err fault) named line behind go = Err (header_fault line fault)
header_said (Ok HeaderEnd) named line behind go = behind_header named line behind
header_said (Ok (GoesOn layout)) named line behind go = go layout behind

-- the header from its next line on, if there is one
abbrev pub header_cut : Option (List ℕ × List ℕ) → Option Layout → ℕ →
    (Option Layout → List ℕ → Result Body ExchangeFault) → Result Body ExchangeFault
header_cut None named line go = Err (header_fault line NoEnd)
header_cut (Some cut) named line go = header_said (header_line named cut.0) named line cut.1 go

-- the header from line n on, up to its end: it has fewer lines than `most`
unfoldable pub header_from : ℕ → Option Layout → ℕ → List ℕ → Result Body ExchangeFault
header_from zero named n bytes = Err (header_fault n NoEnd)
header_from (suc most) named n bytes =
    header_cut (whole_line bytes) named n (λ layout behind. header_from most layout (n + 1) behind)

-- the header from line n on, up to its end: its lines are not more than the bytes
abbrev pub whole_header : Option Layout → ℕ → List ℕ → Result Body ExchangeFault
whole_header named n bytes = header_from (suc (length bytes)) named n bytes

-- the body that a function found is this
abbrev pub IsBody : {B : Type 0} → (B → Body) → Result B ExchangeFault → Result Body ExchangeFault → Type 0
IsBody view (Ok body) given = given ≡ Ok (view body)
IsBody view (Err fault) given = given ≡ Err fault
