-- From the records of a stream to the image of a file that has them
use Rattle.std.proofs.Common.{◌≡◌, ◌∙◌, ℕ, ◌+◌, List, Option, None, Some, IfSome, refl, sym, ap, subst}
use Rattle.std.specs.Prelude.{Result, Ok, Err, Vec}
use Rattle.std.specs.declared.alloc.Global.{Global}
use Rattle.std.proofs.KnownBytes.{Keeps-refl}
use Rattle.lh_addr.specs.Settings.{Settings}
use Rattle.lh_bucket.specs.declared.call.Call.{Call}
use Rattle.lh_bucket.specs.Listing.{Lists}
use Rattle.lh_exchange.specs.Exchanged.{records_in}
use Rattle.lh_exchange.specs.declared.fault.ExchangeFault.{ExchangeFault}
use Rattle.lh_image.specs.declared.fault.WriteImageFault.{WriteImageFault}
use Rattle.lh_image.specs.declared.fault.WriteImageFault.TheVariants.{OldCapacity, OldRecord, TooLarge, WriteFault}
use Rattle.lh_image.specs.declared.fault.WriteImageFault.TheVariants.{Memory as MemoryToWrite}
use Rattle.lh_image.specs.declared.version.Version.{Version}
use Rattle.lh_image.specs.Canonical.{canonical}
use Rattle.lh_image.specs.Writing.{IsWritten}
use Rattle.lh_page.specs.declared.pair.Pair.{Pair}
use Rattle.lh_subcommands.specs.Images.{IsLedTo, unwritten_as}
use Rattle.lh_subcommands.specs.Loading.{EndsLoading, EndsLoadingOf, LoadsCalls, ReadsStream, before_first_met}
use Rattle.lh_subcommands.specs.Loading.{calls_adding, once_each, stream_calls}
use Rattle.lh_subcommands.specs.declared.load.RecordsFault.{RecordsFault}
use Rattle.lh_subcommands.specs.declared.load.RecordsFault.TheVariants.{KeyTwice, Stream}
use Rattle.lh_subcommands.specs.declared.status.DeviceFault.TheVariants.{Read, Write}
use Rattle.lh_subcommands.specs.declared.status.InputFault.TheVariants.{Image, Load, Script, Unwritten}
use Rattle.lh_subcommands.specs.declared.status.Status.{Status}
use Rattle.lh_subcommands.specs.declared.status.Status.TheVariants.{Done, Input, Words, Device, KeyAbsent, Memory}
use Rattle.lh_subcommands.specs.declared.status.Status.TheVariants.{NotSettled}

-- what a stream has
abbrev pub Streamed : Type 0
Streamed = Result (List Pair) ExchangeFault

-- the calls that were read are judged as those that a stream gives
read_calls_are : (calls : Vec Call Global) (given : Streamed) → ReadsStream (Ok calls) given →
    stream_calls given ≡ once_each calls.items (before_first_met calls.items)
read_calls_are calls given (pairs, is, same) =
    ap stream_calls is ∙ ap calls_adding (sym same)

-- each of them adds a record
all_new : (calls : Vec Call Global) (given : Streamed) → ReadsStream (Ok calls) given →
    before_first_met calls.items ≡ None → stream_calls given ≡ Ok calls.items
all_new calls given read none = read_calls_are calls given read ∙ ap (once_each calls.items) none

-- or one meets its key
one_met : (calls : Vec Call Global) (given : Streamed) (before : ℕ) → ReadsStream (Ok calls) given →
    before_first_met calls.items ≡ Some before → stream_calls given ≡ Err (KeyTwice (before + 1))
one_met calls given before read some = read_calls_are calls given read ∙ ap (once_each calls.items) some

-- a run that read no records ends without a write
unstreamed : (version : Version) (settings : Settings) (status : Status) (given : Streamed) (a : Option (List ℕ)) →
    ReadsStream (Err status) given → EndsLoadingOf version settings status (stream_calls given) a a
unstreamed version settings Done given a h = absurd h
unstreamed version settings (Input (Script fault)) given a h = absurd h
unstreamed version settings (Input (Image fault)) given a h = absurd h
unstreamed version settings (Input (Unwritten fault)) given a h = absurd h
unstreamed version settings (Input (Load (Stream fault))) given a h = (ap stream_calls h, Keeps-refl a)
unstreamed version settings (Input (Load (KeyTwice n))) given a h = absurd h
unstreamed version settings (Words text) given a h = absurd h
unstreamed version settings (Device Read) given a h = Keeps-refl a
unstreamed version settings (Device Write) given a h = absurd h
unstreamed version settings Memory given a h = Keeps-refl a
unstreamed version settings (NotSettled fault) given a h = absurd h
unstreamed version settings KeyAbsent given a h = absurd h

pub unloaded : (version : Version) (settings : Settings) (status : Status) (left a : Option (List ℕ)) →
    IfSome left (λ input. ReadsStream (Err status) (records_in input)) →
    IfSome left (λ input. EndsLoading version settings input status a a)
unfolding EndsLoading
unloaded version settings status None a h = tt
unloaded version settings status (Some input) a h = unstreamed version settings status (records_in input) a h

-- so does one whose records are not those of a file
unfiled : (version : Version) (settings : Settings) (status : Status) (calls : Vec Call Global) (given : Streamed)
    (a : Option (List ℕ)) → ReadsStream (Ok calls) given → LoadsCalls settings calls.items (Err status) →
    EndsLoadingOf version settings status (stream_calls given) a a
unfiled version settings Done calls given a read h = absurd h
unfiled version settings (Input (Script fault)) calls given a read h = absurd h
unfiled version settings (Input (Image fault)) calls given a read h = absurd h
unfiled version settings (Input (Unwritten fault)) calls given a read h = absurd h
unfiled version settings (Input (Load (Stream fault))) calls given a read h = absurd h
unfiled version settings (Input (Load (KeyTwice n))) calls given a read (before, some, is) =
    (one_met calls given before read some ∙ ap (λ (m : ℕ). Err (KeyTwice m)) (sym is), Keeps-refl a)
unfiled version settings (Words text) calls given a read h = absurd h
unfiled version settings (Device fault) calls given a read h = absurd h
unfiled version settings Memory calls given a read h = Keeps-refl a
unfiled version settings (NotSettled fault) calls given a read h = absurd h
unfiled version settings KeyAbsent calls given a read h = absurd h

pub not_filed : (version : Version) (settings : Settings) (status : Status) (calls : Vec Call Global)
    (left a : Option (List ℕ)) →
    IfSome left (λ input. ReadsStream (Ok calls) (records_in input)) → LoadsCalls settings calls.items (Err status) →
    IfSome left (λ input. EndsLoading version settings input status a a)
unfolding EndsLoading
not_filed version settings status calls None a read h = tt
not_filed version settings status calls (Some input) a read h =
    unfiled version settings status calls (records_in input) a read h

-- the whole image was written
pub loaded_whole : (version : Version) (settings : Settings) (calls : Vec Call Global) (l : Lists)
    (left before now : Option (List ℕ)) →
    IfSome left (λ input. ReadsStream (Ok calls) (records_in input)) → LoadsCalls settings calls.items (Ok l) →
    IsWritten version l (Ok tt) before now → IfSome left (λ input. EndsLoading version settings input Done before now)
unfolding EndsLoading
loaded_whole version settings calls l None before now read filed written = tt
loaded_whole version settings calls l (Some input) before now read filed written = (
  calls.items,
  canonical version l,
  all_new calls (records_in input) read filed.1,
  record { listing = l; led = filed.0; fits = written.0; bytes = refl },
  written.1,
)

-- a beginning of it was written, or nothing, since the file has no image
half_loaded : (version : Version) (settings : Settings) (calls : List Call) (l : Lists) (fault : WriteImageFault)
    (given : Result (List Call) RecordsFault) (before now : Option (List ℕ)) → given ≡ Ok calls →
    IsLedTo settings calls l → IsWritten version l (Err fault) before now →
    EndsLoadingOf version settings (unwritten_as fault) given before now
half_loaded version settings calls l WriteFault given before now is led written =
    (calls, canonical version l, is, record { listing = l; led = led; fits = written.0; bytes = refl }, written.1)
half_loaded version settings calls l MemoryToWrite given before now is led written = absurd written.0
half_loaded version settings calls l OldCapacity given before now is led written =
    (calls, is, record { listing = l; led = led; refused = written.0 }, written.1)
half_loaded version settings calls l (OldRecord bucket place) given before now is led written =
    (calls, is, record { listing = l; led = led; refused = written.0 }, written.1)
half_loaded version settings calls l TooLarge given before now is led written =
    (calls, is, record { listing = l; led = led; refused = written.0 }, written.1)

pub loaded_not : (version : Version) (settings : Settings) (calls : Vec Call Global) (l : Lists)
    (fault : WriteImageFault) (status : Status) (left before now : Option (List ℕ)) → status ≡ unwritten_as fault →
    IfSome left (λ input. ReadsStream (Ok calls) (records_in input)) → LoadsCalls settings calls.items (Ok l) →
    IsWritten version l (Err fault) before now →
    IfSome left (λ input. EndsLoading version settings input status before now)
unfolding EndsLoading
loaded_not version settings calls l fault status None before now is read filed written = tt
loaded_not version settings calls l fault status (Some input) before now is read filed written =
    subst (λ (s : Status). EndsLoadingOf version settings s (stream_calls (records_in input)) before now) (sym is)
    (half_loaded version settings calls.items l fault (stream_calls (records_in input)) before now
    (all_new calls (records_in input) read filed.1) filed.0 written)
