-- What a run did, from the bytes that it read to the bytes that it wrote
use Rattle.std.specs.Prelude.{◌≡◌, ℕ, Bool, true, false, List, Option, Result, Ok, Err, Vec}
use Rattle.std.specs.declared.alloc.Global.{Global}
use Rattle.std.specs.List.{list_any}
use Rattle.std.specs.FinMap.{empty}
use Rattle.std.specs.Io.KnownBytes.{Keeps, Appends}
use Rattle.lh_addr.specs.Settings.{Settings}
use Rattle.lh_script.specs.Commands.{command}
use Rattle.lh_subcommands.specs.Devices.{TakesBeginning}
use Rattle.lh_bucket.specs.declared.call.Call.{Call}
use Rattle.lh_bucket.specs.PlainMap.{Records, replies}
use Rattle.lh_core.specs.Serial.{size_from}
use Rattle.lh_core.specs.Headline.{IsHeadline}
use Rattle.lh_core.specs.Log.{Entry}
use Rattle.lh_core.specs.World.{WorldSeen}
use Rattle.lh_core.specs.declared.effect.Refusal.TheVariants as refusal
use Rattle.lh_core.specs.declared.event.Event.{Event}
use Rattle.lh_replay.specs.Picture.{picture_of}
use Rattle.lh_script.specs.Scripts.{script}
use Rattle.lh_script.specs.StepTexts.{steps_text}
use Rattle.lh_script.specs.Steps.{step}
use Rattle.lh_script.specs.Texts.{commands_text}
use Rattle.lh_script.specs.declared.fault.ScriptFault.{ScriptFault}
use Rattle.lh_script.specs.declared.notation.Notation.{Notation}
use Rattle.lh_script.specs.declared.notation.Notation.TheVariants.{Hexadecimal}
use Rattle.lh_subcommands.specs.declared.status.DeviceFault.TheVariants.{Read, Write}
use Rattle.lh_subcommands.specs.declared.status.InputFault.{InputFault}
use Rattle.lh_subcommands.specs.declared.status.InputFault.TheVariants.{Script}
use Rattle.lh_subcommands.specs.declared.status.Status.{Status}
use Rattle.lh_subcommands.specs.declared.status.Status.TheVariants.{Done, Input, Words, Device, KeyAbsent, Memory}
use Rattle.lh_subcommands.specs.declared.status.Status.TheVariants.{NotSettled}

-- the statements of a script were read, or how the run ends: with the script's first fault, or where the device or
-- memory failed
abbrev pub ReadsScript : {A : Type 0} → Result (Vec A Global) Status → Result (List A) ScriptFault → Type 0
ReadsScript (Ok statements) given = given ≡ Ok statements.items
ReadsScript (Err (Input (Script fault))) given = given ≡ Err fault
ReadsScript (Err (Device Read)) given = Unit {0}
ReadsScript (Err Memory) given = Unit {0}
ReadsScript (Err _) given = ⊥

-- what the statements of a script are to write, or the script's first fault
abbrev pub due : {A : Type 0} → (List A → List ℕ) → Result (List A) ScriptFault → Result (List ℕ) InputFault
due output (Ok statements) = Ok (output statements)
due output (Err fault) = Err (Script fault)

-- what is to be written of calls on a file of so many buckets that stands for a map: the replies of the plain map, then
-- the number of buckets to which the split policy has the file grow
abbrev pub replies_text : Notation → Settings → Records → ℕ → List Call → List ℕ
replies_text notation settings map start calls =
    commands_text notation (replies map calls) (size_from settings map start calls)

-- what `commands` is to write for an input: that of the script's calls, on an empty file
unfoldable pub commands_due : Notation → Settings → List ℕ → Result (List ℕ) InputFault
commands_due notation settings input =
    due (replies_text notation settings empty settings.initial) (script (command notation) input)

-- a status, and what the writer took, where this is due:
-- done, and it took just the output; a fault, the one that is due, and it took nothing;
-- a failed write, and it took a beginning of the output; a failed read or out of memory, and it took nothing
abbrev pub Ends : Status → Result (List ℕ) InputFault → Option (List ℕ) → Option (List ℕ) → Type 0
Ends Done due before now = (output : List ℕ) × (due ≡ Ok output) × Appends before now output
Ends (Input fault) due before now = (due ≡ Err fault) × Keeps before now
Ends (Device Write) due before now = (output : List ℕ) × (due ≡ Ok output) × TakesBeginning before now output
Ends (Device Read) due before now = Keeps before now
Ends Memory due before now = Keeps before now
Ends (Words text) due before now = ⊥
Ends (NotSettled fault) due before now = ⊥
Ends KeyAbsent due before now = ⊥

-- whether memory ran out at an event
abbrev pub is_want : Entry → Bool
is_want (Err refusal.Memory) = true
is_want _ = false

-- Events have these entries: with some world, the headline holds of the settings, the events and the entries, and none
-- of these is out of memory.
pub record HaveEntries (settings : Settings) (events : List Event) (entries : List Entry) : Type 0 where
  pub world : WorldSeen
  pub headline : IsHeadline settings events entries world
  pub memory : list_any is_want entries ≡ false

-- What `steps` may write for events: a line for each of the entries that they have.
pub record TellsSteps (notation : Notation) (settings : Settings) (events : List Event) (output : List ℕ) : Type 0 where
  pub entries : List Entry
  pub had : HaveEntries settings events entries
  pub lines : output ≡ steps_text notation entries

-- What `replay` may write for events: the picture of them and of the entries that they have.
pub record IsPictured (settings : Settings) (events : List Event) (output : List ℕ) : Type 0 where
  pub entries : List Entry
  pub had : HaveEntries settings events entries
  pub picture : output ≡ picture_of events entries

-- a status, and what the writer took, where a script gives this, and its statements may have any output that this
-- relation allows them:
-- done, and it took just such an output; a fault, the script's first, and it took nothing;
-- a failed write, and it took a beginning of such an output; a failed read or out of memory, and it took nothing
abbrev pub EndsTelling : {A : Type 0} → (List A → List ℕ → Type 0) → Status → Result (List A) ScriptFault →
    Option (List ℕ) → Option (List ℕ) → Type 0
EndsTelling {A} IsOutput Done given before now =
    (statements : List A) × (output : List ℕ) × (given ≡ Ok statements) × IsOutput statements output
    × Appends before now output
EndsTelling IsOutput (Input (Script fault)) given before now = (given ≡ Err fault) × Keeps before now
EndsTelling {A} IsOutput (Device Write) given before now =
    (statements : List A) × (output : List ℕ) × (given ≡ Ok statements) × IsOutput statements output
    × TakesBeginning before now output
EndsTelling IsOutput (Device Read) given before now = Keeps before now
EndsTelling IsOutput Memory given before now = Keeps before now
EndsTelling IsOutput _ given before now = ⊥

-- how `steps` ends on an input: with what the headline tells of the events of its script
unfoldable pub EndsSteps : Notation → Settings → List ℕ → Status → Option (List ℕ) → Option (List ℕ) → Type 0
EndsSteps notation settings input status before now =
    EndsTelling (TellsSteps notation settings) status (script (step notation) input) before now

-- how `replay` ends on an input: with the picture of the events of its script, and of what the headline tells of them
unfoldable pub EndsReplay : Settings → List ℕ → Status → Option (List ℕ) → Option (List ℕ) → Type 0
EndsReplay settings input status before now =
    EndsTelling (IsPictured settings) status (script (step Hexadecimal) input) before now
