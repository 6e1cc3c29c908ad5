-- From the calls of a script to the image of the file that they lead to
use Rattle.std.proofs.Common.{◌≡◌, ◌∙◌, ℕ, ◌<◌, List, Option, None, Some, IfSome, map, refl, sym, ap, subst}
use Rattle.std.specs.Prelude.{Result, Ok, Err, ◌==◌}
use Rattle.std.specs.FinMap.{retain_keys}
use Rattle.std.proofs.KnownBytes.{Keeps-refl}
use Rattle.std.proofs.lemmas.List.{length-map}
use Rattle.std.proofs.Math.ListN.{get_or-map}
use Rattle.lh_addr.specs.Fnv.{code_of}
use Rattle.lh_addr.specs.Growth.{address}
use Rattle.lh_addr.specs.Settings.{Settings}
use Rattle.lh_bucket.specs.declared.call.Call.{Call}
use Rattle.lh_bucket.specs.declared.call.Reply.{Reply}
use Rattle.lh_bucket.specs.Bucket.{Seen}
use Rattle.lh_bucket.specs.Listing.{Lists, IsListing, size, list_at}
use Rattle.lh_bucket.specs.PlainMap.{Records, outcome}
use Rattle.lh_bucket.specs.Records.{map_of}
use Rattle.lh_core.specs.Serial.{IsSerialFrom, size_from}
use Rattle.lh_core.specs.Opened.{lists_in}
use Rattle.lh_core.specs.World.{WorldSeen, no_bucket}
use Rattle.lh_image.specs.declared.fault.WriteImageFault.{WriteImageFault}
use Rattle.lh_image.specs.declared.fault.WriteImageFault.TheVariants.{OldCapacity, OldRecord, TooLarge, WriteFault}
use Rattle.lh_image.specs.declared.fault.WriteImageFault.TheVariants.{Memory as MemoryToWrite}
use Rattle.lh_image.specs.declared.version.Version.{Version}
use Rattle.lh_image.specs.Canonical.{canonical}
use Rattle.lh_image.specs.Writing.{IsWritten}
use Rattle.lh_script.specs.Commands.{command}
use Rattle.lh_subcommands.specs.Images.{EndsBuilding, EndsInImage, IsLedFrom, IsLedTo, unwritten_as}
use Rattle.lh_subcommands.specs.Run.{ReadsScript}
use Rattle.lh_script.specs.Scripts.{script}
use Rattle.lh_script.specs.declared.fault.ScriptFault.{ScriptFault}
use Rattle.lh_script.specs.declared.notation.Notation.{Notation}
use Rattle.lh_subcommands.specs.declared.status.DeviceFault.TheVariants.{Read, Write}
use Rattle.lh_subcommands.specs.declared.status.InputFault.TheVariants.{Script, Image, Load, Unwritten}
use Rattle.lh_subcommands.specs.declared.status.Status.{Status}
use Rattle.lh_subcommands.specs.declared.status.Status.TheVariants.{Done, Input, Words, Device, KeyAbsent, Memory}
use Rattle.lh_subcommands.specs.declared.status.Status.TheVariants.{NotSettled}

-- the listing of a world after calls is one of the file that they lead to
pub led_from : (settings : Settings) (map : Records) (start : ℕ) (calls : List Call) (told : List Reply)
    (world : WorldSeen) (l : Lists) →
    IsSerialFrom settings map start calls told world →
    l ≡ record { config = world.config; lists = lists_in world.buckets } → IsListing l →
    IsLedFrom settings map start calls l
led_from settings map start calls told world l serial is kept =
    let pairs : Seen → List _ = λ b. b.pairs in
    let buckets : size l ≡ size_from settings map start calls =
    ap (λ (x : Lists). size x) is ∙ length-map world.buckets pairs ∙ serial.placed.all in
    record {
      config = ap (λ (x : Lists). x.config) is ∙ serial.same;
      buckets = buckets;
      placed = λ i lt.
          ap (λ (x : Lists). map_of (list_at x.lists i)) is
          ∙ ap map_of (get_or-map pairs world.buckets i no_bucket)
          ∙ serial.placed.each i (subst (λ (n : ℕ). i < n) buckets lt)
          ∙ ap (λ (n : ℕ). retain_keys (outcome map calls) (λ key. address settings.initial n (code_of key) == i))
          (sym buckets);
      listing = kept;
    }

-- what calls lead to
abbrev pub Leading : Type 1
Leading = List Call → Lists → Type 0

-- a run that read no script ends without a write
pub unmade : (LeadsTo : Leading) (version : Version) (status : Status) (given : Result (List Call) ScriptFault)
    (a : Option (List ℕ)) →
    ReadsScript {A = Call} (Err status) given → EndsInImage LeadsTo version status given a a
unmade LeadsTo version Done given a h = absurd h
unmade LeadsTo version (Input (Script fault)) given a h = (h, Keeps-refl a)
unmade LeadsTo version (Input (Image fault)) given a h = absurd h
unmade LeadsTo version (Input (Unwritten fault)) given a h = absurd h
unmade LeadsTo version (Input (Load fault)) given a h = absurd h
unmade LeadsTo version (Words text) given a h = absurd h
unmade LeadsTo version (Device Read) given a h = Keeps-refl a
unmade LeadsTo version (Device Write) given a h = absurd h
unmade LeadsTo version Memory given a h = Keeps-refl a
unmade LeadsTo version (NotSettled fault) given a h = absurd h
unmade LeadsTo version KeyAbsent given a h = absurd h

-- a run of `build` that read no script ends without a write
pub unbuilt : (k : Notation) (version : Version) (settings : Settings) (status : Status) (left a : Option (List ℕ)) →
    IfSome left (λ input. ReadsScript {A = Call} (Err status) (script (command k) input)) →
    IfSome left (λ input. EndsBuilding k version settings input status a a)
unfolding EndsBuilding
unbuilt k version settings status None a h = tt
unbuilt k version settings status (Some input) a h =
    unmade (IsLedTo settings) version status (script (command k) input) a h

-- a run that is out of memory ends without a write
pub unbuilt_memory : (k : Notation) (version : Version) (settings : Settings) (left a : Option (List ℕ)) →
    IfSome left (λ input. EndsBuilding k version settings input Memory a a)
unfolding EndsBuilding
unbuilt_memory k version settings None a = tt
unbuilt_memory k version settings (Some input) a = Keeps-refl a

-- a fault of the file, and neither of the device nor of memory
pub unwritten_for_file : (fault : WriteImageFault) → (fault ≡ WriteFault → ⊥) → (fault ≡ MemoryToWrite → ⊥) →
    Input (Unwritten fault) ≡ unwritten_as fault
unwritten_for_file WriteFault a b = absurd (a refl)
unwritten_for_file MemoryToWrite a b = absurd (b refl)
unwritten_for_file fault a b = refl

-- the script was read
abbrev pub IsScriptOf : Notation → Option (List ℕ) → List Call → Type 0
IsScriptOf k left calls = IfSome left (λ input. script (command k) input ≡ Ok calls)

-- the whole image was written
pub made_whole : (LeadsTo : Leading) (version : Version) (calls : List Call) (l : Lists)
    (given : Result (List Call) ScriptFault) (before now : Option (List ℕ)) →
    given ≡ Ok calls → LeadsTo calls l → IsWritten version l (Ok tt) before now →
    EndsInImage LeadsTo version Done given before now
made_whole LeadsTo version calls l given before now is led written =
    (calls, canonical version l, is, record { listing = l; led = led; fits = written.0; bytes = refl }, written.1)

-- a run of `build` that wrote the whole image is done
pub built_whole : (k : Notation) (version : Version) (settings : Settings) (calls : List Call) (l : Lists)
    (left before now : Option (List ℕ)) →
    IsScriptOf k left calls → IsLedTo settings calls l → IsWritten version l (Ok tt) before now →
    IfSome left (λ input. EndsBuilding k version settings input Done before now)
unfolding EndsBuilding
built_whole k version settings calls l None before now given led written = tt
built_whole k version settings calls l (Some input) before now given led written =
    made_whole (IsLedTo settings) version calls l (script (command k) input) before now given led written

-- a beginning of it was written, or nothing, since the file has no image
pub made_not : (LeadsTo : Leading) (version : Version) (calls : List Call) (l : Lists) (fault : WriteImageFault)
    (given : Result (List Call) ScriptFault)
    (before now : Option (List ℕ)) → given ≡ Ok calls → LeadsTo calls l → IsWritten version l (Err fault) before now →
    EndsInImage LeadsTo version (unwritten_as fault) given before now
made_not LeadsTo version calls l WriteFault given before now is led written =
    (calls, canonical version l, is, record { listing = l; led = led; fits = written.0; bytes = refl }, written.1)
made_not LeadsTo version calls l MemoryToWrite given before now is led written = absurd written.0
made_not LeadsTo version calls l OldCapacity given before now is led written =
    (calls, is, record { listing = l; led = led; refused = written.0 }, written.1)
made_not LeadsTo version calls l (OldRecord bucket place) given before now is led written =
    (calls, is, record { listing = l; led = led; refused = written.0 }, written.1)
made_not LeadsTo version calls l TooLarge given before now is led written =
    (calls, is, record { listing = l; led = led; refused = written.0 }, written.1)

-- a run of `build` whose file was not written as an image ends by that fault
pub built_not : (k : Notation) (version : Version) (settings : Settings) (calls : List Call) (l : Lists)
    (fault : WriteImageFault)
    (status : Status)
    (left before now : Option (List ℕ)) → status ≡ unwritten_as fault → IsScriptOf k left calls →
    IsLedTo settings calls l →
    IsWritten version l (Err fault) before now →
    IfSome left (λ input. EndsBuilding k version settings input status before now)
unfolding EndsBuilding
built_not k version settings calls l fault status None before now is given led written = tt
built_not k version settings calls l fault status (Some input) before now is given led written =
    subst (λ (s : Status). EndsInImage (IsLedTo settings) version s (script (command k) input) before now) (sym is)
    (made_not (IsLedTo settings) version calls l fault (script (command k) input) before now given led written)
