-- How faults of a stream read.
use Rattle.std.specs.Prelude.{ℕ, ◌==◌, if◌then◌else◌, List, ◌++◌, Option, None, Some, codes}
use Rattle.std.specs.Fmt.{decimal}
use Rattle.lh_exchange.specs.declared.fault.ExchangeError.{ExchangeError}
use Rattle.lh_exchange.specs.declared.fault.ExchangeError.TheVariants.{Fault, Memory}
use Rattle.lh_exchange.specs.declared.fault.ExchangeFault.{ExchangeFault}
use Rattle.lh_exchange.specs.declared.fault.StreamFault.{StreamFault}
use Rattle.lh_exchange.specs.declared.fault.StreamFault.TheVariants.{BehindEnd, Duplicates, KeyLength, NoEnd, NoFormat}
use Rattle.lh_exchange.specs.declared.fault.StreamFault.TheVariants.{NoKeys, NoLayout, NotAHeaderLine, NotARecord}
use Rattle.lh_exchange.specs.declared.fault.StreamFault.TheVariants.{NotAValue, UnknownLayout, ValueLength}

-- the text of what is wrong
abbrev pub stream_fault_text : StreamFault → List ℕ
stream_fault_text NoFormat = codes "neither cdb nor db"
stream_fault_text NoLayout = codes "no format= line"
stream_fault_text UnknownLayout = codes "unknown format="
stream_fault_text NotAHeaderLine = codes "bad header line"
stream_fault_text NoKeys = codes "records without keys"
stream_fault_text Duplicates = codes "several values a key"
stream_fault_text NotARecord = codes "bad record"
stream_fault_text NotAValue = codes "bad value"
stream_fault_text (KeyLength n) = codes "key length " ++ decimal n
stream_fault_text (ValueLength n) = codes "value length " ++ decimal n
stream_fault_text NoEnd = codes "no end line"
stream_fault_text BehindEnd = codes "bytes behind the end"

-- where a fault is: at a line of the header, or at a record, and a line of it where there are lines
abbrev pub place_text : ℕ → Option ℕ → List ℕ → List ℕ
place_text n (Some line) text =
    if n == 0 then codes "line " ++ (decimal line ++ (codes ": " ++ text))
    else codes "record " ++ (decimal n ++ (codes ", line " ++ (decimal line ++ (codes ": " ++ text))))
place_text n None text = if n == 0 then text else codes "record " ++ (decimal n ++ (codes ": " ++ text))

-- the text of a fault: where it is, and what is wrong
abbrev pub exchange_fault_text : ExchangeFault → List ℕ
exchange_fault_text fault = place_text fault.record fault.line (stream_fault_text fault.kind)

-- the text of an error
abbrev pub exchange_error_text : ExchangeError → List ℕ
exchange_error_text Memory = codes "no memory"
exchange_error_text (Fault fault) = exchange_fault_text fault
