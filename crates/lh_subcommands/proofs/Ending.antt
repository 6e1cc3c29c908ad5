-- What was read gives what the input gives.
use Rattle.std.proofs.Common.{◌≡◌, ◌∙◌, refl, sym, inl, inr, ℕ, List, Option, None, Some, IfSome, ap, ap₂, subst, arith}
use Rattle.std.proofs.KnownBytes.{Keeps-refl}
use Rattle.std.specs.Io.KnownBytes.{Appends}
use Rattle.std.specs.FinMap.{empty}
use Rattle.std.proofs.lemmas.Bool.Decides.{nat_tests}
use Rattle.std.specs.Prelude.{Result, Ok, Err}
use Rattle.lh_addr.specs.Settings.{Settings}
use Rattle.lh_bucket.specs.PlainMap.{Records, replies}
use Rattle.lh_bucket.specs.declared.call.Call.{Call}
use Rattle.lh_bucket.specs.declared.call.Reply.{Reply}
use Rattle.lh_core.specs.Log.{Entry}
use Rattle.lh_core.specs.Serial.{size_from}
use Rattle.lh_core.specs.declared.event.Event.{Event}
use Rattle.lh_subcommands.specs.Devices.{IsReadOf, TakesBeginning}
use Rattle.lh_subcommands.specs.Run.{Ends, EndsReplay, EndsSteps, EndsTelling, HaveEntries, IsPictured, TellsSteps}
use Rattle.lh_subcommands.specs.Run.{ReadsScript, commands_due, due, replies_text}
use Rattle.lh_replay.specs.Picture.{picture_of}
use Rattle.lh_script.specs.Commands.{command}
use Rattle.lh_script.specs.Texts.{commands_text}
use Rattle.lh_script.specs.StepTexts.{steps_text}
use Rattle.lh_script.specs.Steps.{step}
use Rattle.lh_script.specs.declared.fault.ScriptFault.{ScriptFault}
use Rattle.lh_script.specs.declared.notation.Notation.{Notation}
use Rattle.lh_script.specs.declared.notation.Notation.TheVariants.{Hexadecimal}
use Rattle.lh_subcommands.specs.declared.status.DeviceFault.TheVariants.{Read, Write}
use Rattle.lh_subcommands.specs.declared.status.InputFault.{InputFault}
use Rattle.lh_subcommands.specs.declared.status.InputFault.TheVariants.{Script, Image, Load, Unwritten}
use Rattle.lh_subcommands.specs.declared.status.Status.{Status}
use Rattle.lh_subcommands.specs.declared.status.Status.TheVariants.{Done, Input, Words, Device, KeyAbsent, Memory}
use Rattle.lh_subcommands.specs.declared.status.Status.TheVariants.{NotSettled}
use Rattle.lh_script.specs.Scripts.{Reading, script}

-- a run that read no script ends without a write
pub unread : {A : Type 0} (status : Status) (given : Result (List A) ScriptFault) (output : List A → List ℕ)
    (a : Option (List ℕ)) →
    ReadsScript {A = A} (Err status) given → Ends status (due output given) a a
unread Done given output a h = absurd h
unread (Input (Script fault)) given output a h = (ap (due output) h, Keeps-refl a)
unread (Input (Image fault)) given output a h = absurd h
unread (Input (Unwritten fault)) given output a h = absurd h
unread (Input (Load fault)) given output a h = absurd h
unread (Words text) given output a h = absurd h
unread (Device Read) given output a h = Keeps-refl a
unread (Device Write) given output a h = absurd h
unread Memory given output a h = Keeps-refl a
unread (NotSettled fault) given output a h = absurd h
unread KeyAbsent given output a h = absurd h

-- what was told of a script's calls is what is due
pub told_due : (n : Notation) (settings : Settings) (map : Records) (start : ℕ) (given : Result (List Call) ScriptFault)
    (calls : List Call) (told : List Reply) (buckets : ℕ) →
    given ≡ Ok calls → told ≡ replies map calls → buckets ≡ size_from settings map start calls →
    Ok (commands_text n told buckets) ≡ due (replies_text n settings map start) given
told_due n settings map start given calls told buckets is replied size =
    ap Ok (ap₂ (commands_text n) replied size) ∙ sym (ap (due (replies_text n settings map start)) is)

-- what `commands` told of its script's calls is what is due for the input
pub answered : (n : Notation) (settings : Settings) (status : Status) (left before now : Option (List ℕ))
    (calls : List Call)
    (told : List Reply) (buckets : ℕ) →
    IfSome left (λ input. script (command n) input ≡ Ok calls) →
    Ends status (Ok (commands_text n told buckets)) before now →
    told ≡ replies empty calls → buckets ≡ size_from settings empty settings.initial calls →
    IfSome left (λ input. Ends status (commands_due n settings input) before now)
unfolding commands_due
answered n settings status None before now calls told buckets given ends replied size = tt
answered n settings status (Some input) before now calls told buckets given ends replied size =
    subst (λ (d : Result (List ℕ) InputFault). Ends status d before now)
    (told_due n settings empty settings.initial (script (command n) input) calls told buckets given replied size) ends

-- a run that read no script ends without a write
untold : {A : Type 0} (IsOutput : List A → List ℕ → Type 0) (status : Status) (given : Result (List A) ScriptFault)
    (a : Option (List ℕ)) →
    ReadsScript {A = A} (Err status) given → EndsTelling IsOutput status given a a
untold IsOutput Done given a h = absurd h
untold IsOutput (Input (Script fault)) given a h = (h, Keeps-refl a)
untold IsOutput (Input (Image fault)) given a h = absurd h
untold IsOutput (Input (Unwritten fault)) given a h = absurd h
untold IsOutput (Input (Load fault)) given a h = absurd h
untold IsOutput (Words text) given a h = absurd h
untold IsOutput (Device Read) given a h = Keeps-refl a
untold IsOutput (Device Write) given a h = absurd h
untold IsOutput Memory given a h = Keeps-refl a
untold IsOutput (NotSettled fault) given a h = absurd h
untold IsOutput KeyAbsent given a h = absurd h

-- a run of `steps` that read no script ends without a write
pub no_steps : (n : Notation) (settings : Settings) (status : Status) (input : List ℕ) (a : Option (List ℕ)) →
    ReadsScript {A = Event} (Err status) (script (step n) input) → EndsSteps n settings input status a a
unfolding EndsSteps
no_steps n settings status input a h = untold (TellsSteps n settings) status (script (step n) input) a h

-- a run of `replay` that read no script ends without a write
pub no_schedule : (settings : Settings) (status : Status) (input : List ℕ) (a : Option (List ℕ)) →
    ReadsScript {A = Event} (Err status) (script (step Hexadecimal) input) → EndsReplay settings input status a a
unfolding EndsReplay
no_schedule settings status input a h = untold (IsPictured settings) status (script (step Hexadecimal) input) a h

-- a run that is out of memory ends without a write
pub no_memory : (n : Notation) (settings : Settings) (input : List ℕ) (a : Option (List ℕ)) →
    EndsSteps n settings input Memory a a
unfolding EndsSteps
no_memory n settings input a = Keeps-refl a

-- the lines of all entries were written
pub steps_told : (n : Notation) (settings : Settings) (left before now : Option (List ℕ)) (events : List Event)
    (entries : List Entry) →
    IfSome left (λ input. script (step n) input ≡ Ok events) → HaveEntries settings events entries →
    Appends before now (steps_text n entries) →
    IfSome left (λ input. EndsSteps n settings input Done before now)
unfolding EndsSteps
steps_told n settings None before now events entries given had written = tt
steps_told n settings (Some input) before now events entries given had written =
    (events, steps_text n entries, given, record { entries = entries; had = had; lines = refl }, written)

-- a beginning of the lines of all entries was written
pub steps_begun : (n : Notation) (settings : Settings) (left before now : Option (List ℕ)) (events : List Event)
    (entries : List Entry) →
    IfSome left (λ input. script (step n) input ≡ Ok events) → HaveEntries settings events entries →
    TakesBeginning before now (steps_text n entries) →
    IfSome left (λ input. EndsSteps n settings input (Device Write) before now)
unfolding EndsSteps
steps_begun n settings None before now events entries given had written = tt
steps_begun n settings (Some input) before now events entries given had written =
    (events, steps_text n entries, given, record { entries = entries; had = had; lines = refl }, written)

-- the picture was written
pub schedule_drawn : (settings : Settings) (left before now : Option (List ℕ)) (events : List Event)
    (entries : List Entry) →
    IfSome left (λ input. script (step Hexadecimal) input ≡ Ok events) → HaveEntries settings events entries →
    Appends before now (picture_of events entries) →
    IfSome left (λ input. EndsReplay settings input Done before now)
unfolding EndsReplay
schedule_drawn settings None before now events entries given had written = tt
schedule_drawn settings (Some input) before now events entries given had written =
    (events, picture_of events entries, given, record { entries = entries; had = had; picture = refl }, written)

-- a beginning of the picture was written
pub schedule_begun : (settings : Settings) (left before now : Option (List ℕ)) (events : List Event)
    (entries : List Entry) →
    IfSome left (λ input. script (step Hexadecimal) input ≡ Ok events) → HaveEntries settings events entries →
    TakesBeginning before now (picture_of events entries) →
    IfSome left (λ input. EndsReplay settings input (Device Write) before now)
unfolding EndsReplay
schedule_begun settings None before now events entries given had written = tt
schedule_begun settings (Some input) before now events entries given had written =
    (events, picture_of events entries, given, record { entries = entries; had = had; picture = refl }, written)

-- what was read of an input gives the script that the input gives
pub same_script : {A : Type 0} (read : Reading A) (input bytes : List ℕ) → IsReadOf 16777216 input bytes →
    script read bytes ≡ script read input
same_script read input bytes (inl e) = ap (script read) e
same_script read input bytes (inr h) = grind (arith, nat_tests, h.0, h.1)
