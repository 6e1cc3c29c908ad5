-- What the subcommands for images do: which image `build` and `migrate` write, and what `check` and `dump` tell of one
use Rattle.std.specs.Prelude.{◌≡◌, ℕ, List, Option, Result, Ok, Err}
use Rattle.std.specs.FinMap.{empty}
use Rattle.std.specs.Io.KnownBytes.{Keeps}
use Rattle.lh_addr.specs.Settings.{Settings}
use Rattle.lh_bucket.specs.declared.call.Call.{Call}
use Rattle.lh_bucket.specs.Listing.{Lists}
use Rattle.lh_bucket.specs.PlainMap.{Records, outcome}
use Rattle.lh_core.specs.Listed.{IsListed}
use Rattle.lh_core.specs.Serial.{size_from}
use Rattle.lh_image.specs.declared.fault.ImageFault.{ImageFault}
use Rattle.lh_image.specs.declared.fault.ImageFault.TheVariants.{ReadFault, Memory}
use Rattle.lh_image.specs.declared.fault.WriteImageFault.{WriteImageFault}
use Rattle.lh_image.specs.declared.fault.WriteImageFault.TheVariants.{WriteFault, Memory as MemoryToWrite}
use Rattle.lh_image.specs.declared.version.Version.{Version}
use Rattle.lh_image.specs.declared.version.Version.TheVariants.{Two}
use Rattle.lh_image.specs.Canonical.{canonical}
use Rattle.lh_image.specs.Census.{census_of}
use Rattle.lh_image.specs.Reading.{reading_of}
use Rattle.lh_image.specs.Writing.{FitsImage, IsWriteRefusal}
use Rattle.lh_script.specs.Commands.{command}
use Rattle.lh_draw.specs.Drawing.{drawing_of}
use Rattle.lh_subcommands.specs.ImageTexts.{check_text, dump_text}
use Rattle.lh_subcommands.specs.Run.{EndsTelling}
use Rattle.lh_script.specs.Scripts.{script}
use Rattle.lh_script.specs.declared.fault.ScriptFault.{ScriptFault}
use Rattle.lh_script.specs.declared.notation.Notation.{Notation}
use Rattle.lh_subcommands.specs.declared.status.DeviceFault.TheVariants.{Read, Write}
use Rattle.lh_subcommands.specs.declared.status.InputFault.{InputFault}
use Rattle.lh_subcommands.specs.declared.status.InputFault.TheVariants.{Image, Unwritten}
use Rattle.lh_subcommands.specs.declared.status.Status.{Status}
use Rattle.lh_subcommands.specs.declared.status.Status.TheVariants.{Input, Device, Memory as NoMemory}

-- a listing of the file that calls lead to, from one of so many buckets that stands for a map: with the number of
-- buckets to which the split policy has the file grow, and the records of the calls' outcome
abbrev pub IsLedFrom : Settings → Records → ℕ → List Call → Lists → Type 0
IsLedFrom settings map start calls l = IsListed settings (outcome map calls) (size_from settings map start calls) l

-- a listing of the file that calls lead to from an empty one, as `commands` has it at its end
abbrev pub IsLedTo : Settings → List Call → Lists → Type 0
IsLedTo settings calls l = IsLedFrom settings empty settings.initial calls l

-- the canonical image, in a version, of a listing that these calls lead to, where it has one
pub record IsImageAfter (LeadsTo : List Call → Lists → Type 0) (version : Version) (calls : List Call)
    (output : List ℕ) : Type 0 where
  pub listing : Lists
  pub led : LeadsTo calls listing
  pub fits : FitsImage version listing
  pub bytes : output ≡ canonical version listing

-- a listing that these calls lead to has no image in a version, for this reason
pub record HasNoImage (LeadsTo : List Call → Lists → Type 0) (version : Version) (calls : List Call)
    (fault : WriteImageFault) : Type 0 where
  pub listing : Lists
  pub led : LeadsTo calls listing
  pub refused : IsWriteRefusal version listing fault

-- how a run ends that writes the image of the file that a script's calls lead to: with the reason, and the writer took
-- nothing, where that has no image; otherwise with the image, or with the script's first fault
abbrev pub EndsInImage : (List Call → Lists → Type 0) → Version → Status → Result (List Call) ScriptFault →
    Option (List ℕ) → Option (List ℕ) → Type 0
EndsInImage LeadsTo version (Input (Unwritten fault)) given before now =
    (calls : List Call) × (given ≡ Ok calls) × HasNoImage LeadsTo version calls fault × Keeps before now
EndsInImage LeadsTo version status given before now =
    EndsTelling (IsImageAfter LeadsTo version) status given before now

-- how `build` ends on an input: with the image of the file that the script's calls lead to from an empty one
unfoldable pub EndsBuilding : Notation → Version → Settings → List ℕ → Status → Option (List ℕ) → Option (List ℕ) →
    Type 0
EndsBuilding notation version settings input status before now =
    EndsInImage (IsLedTo settings) version status (script (command notation) input) before now

-- what is to be written of an image, or the first fault of bytes that are none
abbrev pub text_or_fault : (Lists → List ℕ) → Result Lists ImageFault → Result (List ℕ) InputFault
text_or_fault text (Ok l) = Ok (text l)
text_or_fault text (Err fault) = Err (Image fault)

-- what `check` is to write for an input: the census of the listing that it is an image of
unfoldable pub check_due : List ℕ → Result (List ℕ) InputFault
check_due input = text_or_fault (λ l. check_text (census_of l)) (reading_of input)

-- what `dump` is to write for an input: the records of the listing that it is an image of
unfoldable pub dump_due : Notation → List ℕ → Result (List ℕ) InputFault
dump_due notation input = text_or_fault (dump_text notation) (reading_of input)

-- what `draw` is to write for an input: a drawing of the listing that it is an image of
unfoldable pub draw_due : List ℕ → Result (List ℕ) InputFault
draw_due input = text_or_fault drawing_of (reading_of input)

-- what `migrate` is to write for an input: the canonical image of version 2 of the listing that it is an image of
unfoldable pub migrate_due : List ℕ → Result (List ℕ) InputFault
migrate_due input = text_or_fault (canonical Two) (reading_of input)

-- how a run ends whose file was not written as an image
abbrev pub unwritten_as : WriteImageFault → Status
unwritten_as WriteFault = Device Write
unwritten_as MemoryToWrite = NoMemory
unwritten_as fault = Input (Unwritten fault)

-- how a run ends whose input was not read as an image
abbrev pub refused_as : ImageFault → Status
refused_as ReadFault = Device Read
refused_as Memory = NoMemory
refused_as fault = Input (Image fault)
