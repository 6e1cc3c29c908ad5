-- What `query` and `apply` do, which read an image and behind its last page a script of calls
use Rattle.std.specs.Prelude.{◌≡◌, ℕ, List, [], Option, Result, Ok, Err}
use Rattle.lh_bucket.specs.declared.call.Call.{Call}
use Rattle.lh_bucket.specs.Listing.{Lists, size}
use Rattle.lh_core.specs.Opened.{records_of}
use Rattle.lh_image.specs.declared.fault.ImageFault.{ImageFault}
use Rattle.lh_image.specs.declared.version.Version.{Version}
use Rattle.lh_image.specs.Reading.{following, leading, reading_of}
use Rattle.lh_script.specs.Commands.{command}
use Rattle.lh_script.specs.Scripts.{script}
use Rattle.lh_script.specs.declared.fault.ScriptFault.{ScriptFault}
use Rattle.lh_script.specs.declared.notation.Notation.{Notation}
use Rattle.lh_subcommands.specs.Images.{EndsInImage, IsLedFrom}
use Rattle.lh_subcommands.specs.Run.{Ends, due, replies_text}
use Rattle.lh_subcommands.specs.declared.continued.Continued.{Continued}
use Rattle.lh_subcommands.specs.declared.status.DeviceFault.TheVariants.{Read}
use Rattle.lh_subcommands.specs.declared.status.InputFault.{InputFault}
use Rattle.lh_subcommands.specs.declared.status.InputFault.TheVariants.{Image, Script}
use Rattle.lh_subcommands.specs.declared.status.Status.{Status}
use Rattle.lh_subcommands.specs.declared.status.Status.TheVariants.{Input, Device, Memory}

-- the script behind the image that an input begins with; its lines are counted from there
abbrev pub script_behind : Notation → List ℕ → Result (List Call) ScriptFault
script_behind notation input = script (command notation) (following input)

-- a file and a script's calls were read, or how the run ends: with the image's fault, or if it has none with the
-- script's, or where the device or memory failed
abbrev pub ReadsContinued : Result Continued Status → Result Lists ImageFault → Result (List Call) ScriptFault → Type 0
ReadsContinued (Ok read) file given = (file ≡ Ok read.listing) × (given ≡ Ok read.calls.items)
ReadsContinued (Err (Input (Image fault))) file given = file ≡ Err fault
ReadsContinued (Err (Input (Script fault))) file given = (l : Lists) × (file ≡ Ok l) × (given ≡ Err fault)
ReadsContinued (Err (Device Read)) file given = Unit {0}
ReadsContinued (Err Memory) file given = Unit {0}
ReadsContinued (Err _) file given = ⊥

-- what is to be written of a script's calls on a file, or the first fault: the image's before any of the script's
abbrev pub replies_due : Notation → Result Lists ImageFault → Result (List Call) ScriptFault →
    Result (List ℕ) InputFault
replies_due notation (Ok l) given = due (replies_text notation l.config (records_of l) (size l)) given
replies_due notation (Err fault) given = Err (Image fault)

-- what `query` is to write for an input: the replies of the plain map of the image's listing to the calls of the script
-- behind it, then the number of buckets to which the split policy has the file grow
unfoldable pub query_due : Notation → List ℕ → Result (List ℕ) InputFault
query_due notation input = replies_due notation (reading_of (leading input)) (script_behind notation input)

-- what it is to write where the image is an input of its own
unfoldable pub query_due_of : Notation → List ℕ → List ℕ → Result (List ℕ) InputFault
query_due_of notation image text = replies_due notation (reading_of image) (script (command notation) text)

-- A listing of the file that calls leave of another one. Without a call that is the same, with its records in the same
-- order.
pub record IsLeft (file : Lists) (calls : List Call) (l : Lists) : Type 0 where
  pub led : IsLedFrom file.config (records_of file) (size file) calls l
  pub unchanged : calls ≡ [] → l ≡ file

-- how a run ends that writes the image of the file that a script's calls leave of one that was read; with the image's
-- fault, where it was none
abbrev pub EndsLeaving : Version → Status → Result Lists ImageFault → Result (List Call) ScriptFault →
    Option (List ℕ) → Option (List ℕ) → Type 0
EndsLeaving version status (Ok l) given before now = EndsInImage (IsLeft l) version status given before now
EndsLeaving version status (Err fault) given before now = Ends status (Err (Image fault)) before now

-- how `apply` ends on an input: with the image of the file that the calls of the script behind the image leave
unfoldable pub EndsApplying : Notation → Version → List ℕ → Status → Option (List ℕ) → Option (List ℕ) → Type 0
EndsApplying notation version input status before now =
    EndsLeaving version status (reading_of (leading input)) (script_behind notation input) before now

-- how it ends where the image is an input of its own
unfoldable pub EndsApplyingTo : Notation → Version → List ℕ → List ℕ → Status → Option (List ℕ) → Option (List ℕ) →
    Type 0
EndsApplyingTo notation version image text status before now =
    EndsLeaving version status (reading_of image) (script (command notation) text) before now
