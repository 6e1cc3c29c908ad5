-- What `load` does: from the records of another store to the image of a file that has them
use Rattle.std.specs.Prelude.{◌≡◌, ℕ, ◌+◌, Bool, true, false, List, Option, None, Some, Result, Ok, Err, Vec, map}
use Rattle.std.specs.declared.alloc.Global.{Global}
use Rattle.std.specs.FinMap.{empty}
use Rattle.std.specs.Io.KnownBytes.{Appends, Keeps}
use Rattle.std.specs.List.{position}
use Rattle.lh_addr.specs.Settings.{Settings}
use Rattle.lh_bucket.specs.declared.call.Call.{Call}
use Rattle.lh_bucket.specs.declared.call.Call.TheVariants.{Insert}
use Rattle.lh_bucket.specs.declared.call.Reply.{Reply}
use Rattle.lh_bucket.specs.declared.call.Reply.TheVariants.{Exists}
use Rattle.lh_bucket.specs.Listing.{Lists}
use Rattle.lh_bucket.specs.PlainMap.{replies}
use Rattle.lh_exchange.specs.Exchanged.{records_in}
use Rattle.lh_exchange.specs.declared.fault.ExchangeFault.{ExchangeFault}
use Rattle.lh_image.specs.declared.version.Version.{Version}
use Rattle.lh_page.specs.declared.pair.Pair.{Pair}
use Rattle.lh_subcommands.specs.Devices.{TakesBeginning}
use Rattle.lh_subcommands.specs.Images.{HasNoImage, IsImageAfter, IsLedTo}
use Rattle.lh_subcommands.specs.declared.load.RecordsFault.{RecordsFault}
use Rattle.lh_subcommands.specs.declared.load.RecordsFault.TheVariants.{KeyTwice, Stream}
use Rattle.lh_subcommands.specs.declared.status.DeviceFault.TheVariants.{Read, Write}
use Rattle.lh_subcommands.specs.declared.status.InputFault.TheVariants.{Load, Unwritten}
use Rattle.lh_subcommands.specs.declared.status.Status.{Status}
use Rattle.lh_subcommands.specs.declared.status.Status.TheVariants.{Done, Input, Device, Memory}

-- the call that adds a record
abbrev pub adding : Pair → Call
adding pair = Insert pair.key pair.value

-- whether an insert met its key
abbrev pub meets_key : Reply → Bool
meets_key Exists = true
meets_key _ = false

-- how many calls stand in front of the first that meets its key, where they are made on an empty file
abbrev pub before_first_met : List Call → Option ℕ
before_first_met calls = position meets_key (replies empty calls)

-- calls of which none meets its key; or the number, from 1 on, of the record whose key is that of one in front of it
abbrev pub once_each : List Call → Option ℕ → Result (List Call) RecordsFault
once_each calls None = Ok calls
once_each calls (Some before) = Err (KeyTwice (before + 1))

-- the calls that add records, of which no two have one key
abbrev pub calls_adding : List Call → Result (List Call) RecordsFault
calls_adding calls = once_each calls (before_first_met calls)

-- the calls that add the records of a stream, or its first fault
abbrev pub stream_calls : Result (List Pair) ExchangeFault → Result (List Call) RecordsFault
stream_calls (Ok pairs) = calls_adding (map adding pairs)
stream_calls (Err fault) = Err (Stream fault)

-- a status, and what the writer took, where these calls are to be made, or this fault was found:
-- done, and it took just the image of a file that the calls lead to; that file has no image, for this reason, and it
-- took nothing; a fault, the one that was found, and it took nothing;
-- a failed write, and it took a beginning of such an image; a failed read or out of memory, and it took nothing
abbrev pub EndsLoadingOf : Version → Settings → Status → Result (List Call) RecordsFault → Option (List ℕ) →
    Option (List ℕ) → Type 0
EndsLoadingOf version settings Done given before now =
    (calls : List Call) × (output : List ℕ) × (given ≡ Ok calls)
    × IsImageAfter (IsLedTo settings) version calls output × Appends before now output
EndsLoadingOf version settings (Input (Unwritten fault)) given before now =
    (calls : List Call) × (given ≡ Ok calls) × HasNoImage (IsLedTo settings) version calls fault × Keeps before now
EndsLoadingOf version settings (Input (Load fault)) given before now = (given ≡ Err fault) × Keeps before now
EndsLoadingOf version settings (Device Write) given before now =
    (calls : List Call) × (output : List ℕ) × (given ≡ Ok calls)
    × IsImageAfter (IsLedTo settings) version calls output × TakesBeginning before now output
EndsLoadingOf version settings (Device Read) given before now = Keeps before now
EndsLoadingOf version settings Memory given before now = Keeps before now
EndsLoadingOf version settings _ given before now = ⊥

-- how `load` ends on an input: with the image of a file of just the records that the stream has
unfoldable pub EndsLoading : Version → Settings → List ℕ → Status → Option (List ℕ) → Option (List ℕ) → Type 0
EndsLoading version settings input status before now =
    EndsLoadingOf version settings status (stream_calls (records_in input)) before now

-- the calls that add a stream's records were read, or how the run ends: with the stream's first fault, or where the
-- device or memory failed
abbrev pub ReadsStream : Result (Vec Call Global) Status → Result (List Pair) ExchangeFault → Type 0
ReadsStream (Ok calls) given = (pairs : List Pair) × (given ≡ Ok pairs) × (calls.items ≡ map adding pairs)
ReadsStream (Err (Input (Load (Stream fault)))) given = given ≡ Err fault
ReadsStream (Err (Device Read)) given = Unit {0}
ReadsStream (Err Memory) given = Unit {0}
ReadsStream (Err _) given = ⊥

-- a listing of the file that calls lead to was made, of which none met its key; or how the run ends: with the first
-- that did, or where memory ran out
abbrev pub LoadsCalls : Settings → List Call → Result Lists Status → Type 0
LoadsCalls settings calls (Ok l) = IsLedTo settings calls l × (before_first_met calls ≡ None)
LoadsCalls settings calls (Err (Input (Load (KeyTwice n)))) =
    (before : ℕ) × (before_first_met calls ≡ Some before) × (n ≡ before + 1)
LoadsCalls settings calls (Err Memory) = Unit {0}
LoadsCalls settings calls (Err _) = ⊥
