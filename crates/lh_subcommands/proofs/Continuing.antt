-- From an image and the calls behind it to what they have written
use Rattle.std.proofs.Common.{◌≡◌, ◌∙◌, ℕ, List, [], Option, None, Some, IfSome, sym, ap, subst}
use Rattle.std.specs.Prelude.{Result, Ok, Err}
use Rattle.lh_bucket.specs.declared.call.Call.{Call}
use Rattle.lh_bucket.specs.declared.call.Reply.{Reply}
use Rattle.lh_bucket.specs.Listing.{Lists, IsListing, size}
use Rattle.lh_core.specs.Opened.{lists_in, records_of}
use Rattle.lh_core.specs.Serial.{IsSerialFrom}
use Rattle.lh_core.specs.World.{WorldSeen}
use Rattle.lh_image.specs.declared.fault.ImageFault.{ImageFault}
use Rattle.lh_image.specs.declared.fault.ImageFault.TheVariants.{ReadFault, Memory as MemoryToRead}
use Rattle.lh_image.specs.declared.version.Version.{Version}
use Rattle.lh_image.specs.Reading.{IsDueFault, following, leading, reading_of}
use Rattle.lh_script.specs.Commands.{command}
use Rattle.lh_script.specs.Scripts.{script}
use Rattle.lh_script.specs.declared.fault.ScriptFault.{ScriptFault}
use Rattle.lh_script.specs.declared.notation.Notation.{Notation}
use Rattle.lh_subcommands.specs.Continued.{EndsApplying, EndsApplyingTo, EndsLeaving, IsLeft, ReadsContinued}
use Rattle.lh_subcommands.specs.Continued.{query_due, query_due_of, replies_due, script_behind}
use Rattle.lh_subcommands.specs.declared.continued.Continued.{Continued}
use Rattle.lh_subcommands.specs.Images.{refused_as}
use Rattle.lh_subcommands.specs.Run.{Ends, ReadsScript}
use Rattle.lh_subcommands.specs.declared.status.DeviceFault.TheVariants.{Read, Write}
use Rattle.lh_subcommands.specs.declared.status.InputFault.TheVariants.{Script, Image, Load, Unwritten}
use Rattle.lh_subcommands.specs.declared.status.Status.{Status}
use Rattle.lh_subcommands.specs.declared.status.Status.TheVariants.{Done, Input, Words, Device, KeyAbsent, Memory}
use Rattle.lh_subcommands.specs.declared.status.Status.TheVariants.{NotSettled}
use Rattle.lh_subcommands.proofs.Building.{led_from}

-- both were read, of one input
abbrev pub AreRead : Notation → Option (List ℕ) → Lists → List Call → Type 0
AreRead n left l calls = IfSome left (λ input. (reading_of (leading input) ≡ Ok l) × (script_behind n input ≡ Ok calls))

-- no image was read
no_image : (fault : ImageFault) (file : Result Lists ImageFault) (given : Result (List Call) ScriptFault) →
    IsDueFault fault file →
    ReadsContinued (Err (refused_as fault)) file given
no_image ReadFault file given h = tt
no_image MemoryToRead file given h = tt
no_image fault file given h = h

-- no script was read
no_script : (status : Status) (l : Lists) (file : Result Lists ImageFault) (given : Result (List Call) ScriptFault) →
    file ≡ Ok l →
    ReadsScript {A = Call} (Err status) given → ReadsContinued (Err status) file given
no_script Done l file given is h = absurd h
no_script (Input (Script fault)) l file given is h = (l, is, h)
no_script (Input (Image fault)) l file given is h = absurd h
no_script (Input (Unwritten fault)) l file given is h = absurd h
no_script (Input (Load fault)) l file given is h = absurd h
no_script (Words text) l file given is h = absurd h
no_script (Device Read) l file given is h = tt
no_script (Device Write) l file given is h = absurd h
no_script Memory l file given is h = tt
no_script (NotSettled fault) l file given is h = absurd h
no_script KeyAbsent l file given is h = absurd h

-- a run whose input was not read as an image ends by that fault
pub image_refused : (n : Notation) (fault : ImageFault) (status : Status) (left : Option (List ℕ)) →
    status ≡ refused_as fault →
    IfSome left (λ input. IsDueFault fault (reading_of (leading input))) →
    IfSome left (λ input. ReadsContinued (Err status) (reading_of (leading input)) (script_behind n input))
image_refused n fault status None is h = tt
image_refused n fault status (Some input) is h =
    subst (λ (s : Status). ReadsContinued (Err s) (reading_of (leading input)) (script_behind n input)) (sym is)
    (no_image fault (reading_of (leading input)) (script_behind n input) h)

-- the image was read, and its script follows
abbrev pub IsFollowed : Lists → Option (List ℕ) → Option (List ℕ) → Type 0
IsFollowed listing left now =
    IfSome left
    (λ input. ((l : Lists) × (reading_of (leading input) ≡ Ok l) × (listing ≡ l)) × (now ≡ Some (following input)))

-- an image that was read, with what follows it left to read, is followed by its script
pub followed : (listing : Lists) (left now : Option (List ℕ)) →
    IfSome left (λ input. (l : Lists) × (reading_of (leading input) ≡ Ok l) × (listing ≡ l)) →
    IfSome left (λ input. now ≡ Some (following input)) →
    IsFollowed listing left now
followed listing None now h k = tt
followed listing (Some input) now h k = (h, k)

-- where the image was read, and then the script that follows it, both were read
pub both_read : (n : Notation) (listing : Lists) (calls : List Call) (left now : Option (List ℕ)) →
    IsFollowed listing left now →
    IfSome now (λ rest. script (command n) rest ≡ Ok calls) → AreRead n left listing calls
both_read n listing calls None now h k = tt
both_read n listing calls (Some input) now h k = (
  h.0.1
      ∙ ap Ok (sym h.0.2),
  subst (λ (o : Option (List ℕ)). IfSome o (λ rest. script (command n) rest ≡ Ok calls)) h.1 k,
)

-- where the image was read, but no script that follows it, the run ends as the reading of the script did
pub script_refused : (n : Notation) (listing : Lists) (status : Status) (left now : Option (List ℕ)) →
    IsFollowed listing left now →
    IfSome now (λ rest. ReadsScript {A = Call} (Err status) (script (command n) rest)) →
    IfSome left (λ input. ReadsContinued (Err status) (reading_of (leading input)) (script_behind n input))
script_refused n listing status None now h k = tt
script_refused n listing status (Some input) now h k =
    no_script status listing (reading_of (leading input)) (script_behind n input) (h.0.1 ∙ ap Ok (sym h.0.2))
    (subst (λ (o : Option (List ℕ)). IfSome o (λ rest. ReadsScript {A = Call} (Err status) (script (command n) rest)))
    h.1
    k)

-- a run that read an image and a script behind it ends as it does for what it read
pub queried_behind : (n : Notation) (read : Result Continued Status) (status : Status)
    (left before now : Option (List ℕ)) →
    IfSome left (λ input. ReadsContinued read (reading_of (leading input)) (script_behind n input)) →
    ((file : Result Lists ImageFault) (given : Result (List Call) ScriptFault) → ReadsContinued read file given →
    Ends status (replies_due n file given) before now) →
    IfSome left (λ input. Ends status (query_due n input) before now)
unfolding query_due
queried_behind n read status None before now h f = tt
queried_behind n read status (Some input) before now h f = f (reading_of (leading input)) (script_behind n input) h

-- so does one that read them apart
pub queried_apart : (n : Notation) (read : Result Continued Status) (status : Status)
    (held left before now : Option (List ℕ)) →
    IfSome held (λ image. IfSome left (λ text. ReadsContinued read (reading_of image) (script (command n) text))) →
    ((file : Result Lists ImageFault) (given : Result (List Call) ScriptFault) → ReadsContinued read file given →
    Ends status (replies_due n file given) before now) →
    IfSome held (λ image. IfSome left (λ text. Ends status (query_due_of n image text) before now))
unfolding query_due_of
queried_apart n read status None left before now h f = tt
queried_apart n read status (Some image) None before now h f = tt
queried_apart n read status (Some image) (Some text) before now h f = f (reading_of image) (script (command n) text) h

-- without calls a file is left as it was
same_file : (l file : Lists) (world : WorldSeen) →
    l ≡ record { config = world.config; lists = lists_in world.buckets } → world.config ≡ file.config →
    lists_in world.buckets ≡ file.lists → l ≡ file
same_file l file world is config lists = is ∙ (λ i. record { config = config i; lists = lists i })

-- the listing of a world after calls is one of the file that they leave
pub left_of : (file : Lists) (calls : List Call) (told : List Reply) (world : WorldSeen) (l : Lists) →
    IsSerialFrom file.config (records_of file) (size file) calls told world →
    (calls ≡ [] → lists_in world.buckets ≡ file.lists) →
    l ≡ record { config = world.config; lists = lists_in world.buckets } → IsListing l → IsLeft file calls l
left_of file calls told world l serial lists is kept = record {
  led = led_from file.config (records_of file) (size file) calls told world l serial is kept;
  unchanged = λ none. same_file l file world is serial.same (lists none);
}

-- a run of `apply` that read an image and a script behind it ends as it does for what it read
pub applied_behind : (n : Notation) (version : Version) (read : Result Continued Status) (status : Status)
    (left before now : Option (List ℕ)) →
    IfSome left (λ input. ReadsContinued read (reading_of (leading input)) (script_behind n input)) →
    ((file : Result Lists ImageFault) (given : Result (List Call) ScriptFault) → ReadsContinued read file given →
    EndsLeaving version status file given before now) →
    IfSome left (λ input. EndsApplying n version input status before now)
unfolding EndsApplying
applied_behind n version read status None before now h f = tt
applied_behind n version read status (Some input) before now h f =
    f (reading_of (leading input)) (script_behind n input) h

-- so does one that read them apart
pub applied_apart : (n : Notation) (version : Version) (read : Result Continued Status) (status : Status)
    (held left before now : Option (List ℕ)) →
    IfSome held (λ image. IfSome left (λ text. ReadsContinued read (reading_of image) (script (command n) text))) →
    ((file : Result Lists ImageFault) (given : Result (List Call) ScriptFault) → ReadsContinued read file given →
    EndsLeaving version status file given before now) →
    IfSome held (λ image. IfSome left (λ text. EndsApplyingTo n version image text status before now))
unfolding EndsApplyingTo
applied_apart n version read status None left before now h f = tt
applied_apart n version read status (Some image) None before now h f = tt
applied_apart n version read status (Some image) (Some text) before now h f =
    f (reading_of image) (script (command n) text) h
