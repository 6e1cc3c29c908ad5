-- The records of a stream: the definition of what is read.
use Rattle.std.specs.Prelude.{◌≡◌, ℕ, ◌+◌, ◌*◌, ◌==◌, ◌||◌, Bool, false, if◌then◌else◌, suc, zero, List, [], ◌∷◌}
use Rattle.std.specs.Prelude.{length, Option, None, Some, Result, Ok, Err, codes}
use Rattle.lh_page.specs.declared.pair.Pair.{Pair}
use Rattle.lh_exchange.specs.Cdb.{next_cdb}
use Rattle.lh_exchange.specs.DbHeader.{Body, whole_header}
use Rattle.lh_exchange.specs.DbRecords.{next_db}
use Rattle.lh_exchange.specs.StreamLines.{is_line, whole_line}
use Rattle.lh_exchange.specs.StreamParts.{Next}
use Rattle.lh_exchange.specs.declared.fault.ExchangeError.{ExchangeError}
use Rattle.lh_exchange.specs.declared.fault.ExchangeError.TheVariants.{Fault, Memory}
use Rattle.lh_exchange.specs.declared.fault.ExchangeFault.{ExchangeFault}
use Rattle.lh_exchange.specs.declared.fault.StreamFault.{StreamFault}
use Rattle.lh_exchange.specs.declared.fault.StreamFault.TheVariants.{BehindEnd, NoEnd, NoFormat, NotAValue, ValueLength}
use Rattle.lh_exchange.specs.declared.layout.Layout.{Layout}
use Rattle.lh_exchange.specs.declared.layout.Layout.TheVariants.{Bytevalue, Cdb, Print}

-- records, or the first fault
abbrev pub RecordsOrFault : Type 0
RecordsOrFault = Result (List Pair) ExchangeFault

-- the next record, by how records are written
abbrev pub next_record : Layout → List ℕ → Next
next_record Cdb bytes = next_cdb bytes
next_record Bytevalue bytes = next_db Bytevalue bytes
next_record Print bytes = next_db Print bytes

-- which line of a record is at fault, from 0: the value has the second, and what is behind the end is behind a line
abbrev pub line_in_record : StreamFault → ℕ
line_in_record NotAValue = 1
line_in_record (ValueLength n) = 1
line_in_record BehindEnd = 1
line_in_record _ = 0

-- the line of a fault, where `before` records stand in front, of two lines each
abbrev pub line_at_fault : Option ℕ → ℕ → StreamFault → Option ℕ
line_at_fault None before fault = None
line_at_fault (Some first) before fault = Some (first + 2 * before + line_in_record fault)

-- a fault behind so many records, the first of which is on this line
abbrev pub record_fault : Option ℕ → ℕ → StreamFault → ExchangeFault
record_fault first before fault =
    record { «record» = before + 1; line = line_at_fault first before fault; kind = fault }

-- a record in front of others, if those were read
abbrev pub onto_records : Pair → RecordsOrFault → RecordsOrFault
onto_records pair (Ok pairs) = Ok (pair ∷ pairs)
onto_records pair (Err fault) = Err fault

-- the records from the next on, where `go` reads those behind it
abbrev pub records_then : Option ℕ → ℕ → Next → (List ℕ → RecordsOrFault) → RecordsOrFault
records_then first before (Err fault) go = Err (record_fault first before fault)
records_then first before (Ok None) go = Ok []
records_then first before (Ok (Some x)) go = onto_records x.0 (go x.1)

-- the records of some bytes, in front of which so many records stand: fewer than `most`
unfoldable pub records_from : Layout → Option ℕ → ℕ → ℕ → List ℕ → RecordsOrFault
records_from layout first zero before bytes = Err (record_fault first before NoEnd)
records_from layout first (suc most) before bytes =
    records_then first before (next_record layout bytes) (λ behind. records_from layout first most (before + 1) behind)

-- the records of some bytes, in front of which so many records stand: they are not more than the bytes
abbrev pub stream_records : Layout → Option ℕ → ℕ → List ℕ → RecordsOrFault
stream_records layout first before bytes = records_from layout first (suc (length bytes)) before bytes

-- the records of a body
abbrev pub records_of_body : Result Body ExchangeFault → RecordsOrFault
records_of_body (Ok body) = stream_records body.0 body.1 0 body.2
records_of_body (Err fault) = Err fault

-- where neither format begins
abbrev pub no_format : ExchangeFault
no_format = record { «record» = 0; line = None; kind = NoFormat }

-- what stands behind the line `VERSION=3`, with which db begins
abbrev pub db_body : Option (List ℕ × List ℕ) → Result Body ExchangeFault
db_body None = Err no_format
db_body (Some cut) =
    if is_line cut.0 (codes "VERSION=3") then whole_header None 2 cut.1 else Err no_format

-- cdb begins with `+`, 43, or LF, 10
abbrev pub begins_as_cdb : List ℕ → Bool
begins_as_cdb [] = false
begins_as_cdb (c ∷ cs) = (c == 43) || (c == 10)

-- what does not begin as cdb is db
unfoldable pub body_of : List ℕ → Result Body ExchangeFault
body_of bytes = if begins_as_cdb bytes then Ok (Cdb, None, bytes) else db_body (whole_line bytes)

-- the records of a stream in either format, in its order, or its first fault
abbrev pub records_in : List ℕ → RecordsOrFault
records_in bytes = records_of_body (body_of bytes)

-- what was read is what the stream has, unless memory ran out
abbrev pub GivesRecords : {X : Type 0} → (X → List Pair) → Result X ExchangeError → RecordsOrFault → Type 0
GivesRecords view (Ok x) given = given ≡ Ok (view x)
GivesRecords view (Err Memory) given = Unit {0}
GivesRecords view (Err (Fault fault)) given = given ≡ Err fault
