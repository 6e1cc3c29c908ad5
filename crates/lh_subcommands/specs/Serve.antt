-- What `serve` does, from what it heard to what it told
use Rattle.std.specs.Prelude.{◌≡◌, ◌⊎◌, ℕ, Bool, List, [], ◌++◌, Option, Some, Result, Ok, Err}
use Rattle.std.specs.Io.KnownBytes.{Appends, Consumes, Keeps}
use Rattle.lh_bucket.specs.Listing.{Lists}
use Rattle.lh_image.specs.Reading.{following, leading, reading_of}
use Rattle.lh_image.specs.declared.fault.ImageFault.{ImageFault}
use Rattle.lh_script.specs.declared.notation.Notation.{Notation}
use Rattle.lh_serving.specs.Answers.{file_of}
use Rattle.lh_serving.specs.Conversations.{Beginning, ConversationSeen, IsAnswered, IsAt, beginning}
use Rattle.lh_subcommands.specs.Devices.{TakesBeginning}
use Rattle.lh_subcommands.specs.declared.status.DeviceFault.{DeviceFault}
use Rattle.lh_subcommands.specs.declared.status.DeviceFault.TheVariants.{Read, Write}
use Rattle.lh_subcommands.specs.Run.{Ends}
use Rattle.lh_subcommands.specs.declared.status.InputFault.TheVariants.{Image}
use Rattle.lh_subcommands.specs.declared.status.Status.{Status}
use Rattle.lh_subcommands.specs.declared.status.Status.TheVariants.{Done, Input, Device, Memory}

-- A conversation that heard these bytes: what the writer took is what was told.
pub record IsTelling (start : Beginning) (talk : ConversationSeen) (before now : Option (List ℕ)) (heard : List ℕ) :
    Type 0 where
  pub answers : List ℕ
  pub held : IsAt start talk heard answers
  pub appended : Appends before now answers

-- The writer took just the answers to the complete lines of what was heard.
pub record TellsAnswers (start : Beginning) (before now : Option (List ℕ)) (heard : List ℕ) : Type 0 where
  pub answers : List ℕ
  pub answered : IsAnswered start heard answers
  pub appended : Appends before now answers

-- A write failed: the writer took a beginning of the answers to a beginning of what was heard.
pub record IsCutShort (start : Beginning) (before now : Option (List ℕ)) (heard : List ℕ) : Type 0 where
  pub served : List ℕ
  pub left : List ℕ
  pub split : heard ≡ served ++ left
  pub answers : List ℕ
  pub answered : IsAnswered start served answers
  pub taken : TakesBeginning before now answers

-- a device failed: at a read nothing more was heard, and all of what was heard before has been told
abbrev pub EndsAtFault : Beginning → DeviceFault → Option (List ℕ) → Option (List ℕ) → List ℕ → List ℕ → Type 0
EndsAtFault start Read before now heard bytes = (bytes ≡ []) × TellsAnswers start before now heard
EndsAtFault start Write before now heard bytes = IsCutShort start before now (heard ++ bytes)

-- How `serve` of a file ends on an input, with what the reader has left: done, and it told the answers to all lines of
-- the input; a failed read, and it told just the answers to the lines that had come by then; a failed write, and it
-- told a beginning of such answers; out of memory at once, and it heard and told nothing.
abbrev pub EndsServing : Beginning → List ℕ → Status → Option (List ℕ) → Option (List ℕ) → Option (List ℕ) → Type 0
EndsServing start input Done rest before now = TellsAnswers start before now input
EndsServing start input (Device Read) rest before now =
    (heard : List ℕ) × Consumes (Some input) rest heard × TellsAnswers start before now heard
EndsServing start input (Device Write) rest before now =
    (heard : List ℕ) × Consumes (Some input) rest heard × IsCutShort start before now heard
EndsServing start input Memory rest before now = Keeps (Some input) rest × Keeps before now
EndsServing start input _ rest before now = ⊥

-- the image was not read to its end, or there was no memory for its file
abbrev pub IsUnread : Status → Type 0
IsUnread status = (status ≡ Device Read) ⊎ (status ≡ Memory)

-- how a run ends whose input begins with no image that is read, by what it is read as: unread, or with the image's
-- fault
abbrev pub IsUnopened : Status → Result Lists ImageFault → Type 0
IsUnopened status due = IsUnread status ⊎ ((fault : ImageFault) × (due ≡ Err fault) × (status ≡ Input (Image fault)))

-- how `serve` ends whose input begins with an image, by what that is read as and what follows it: the file of its
-- listing is served, or nothing is told, since reads or memory failed, or since it is none
abbrev pub EndsGoingOn : Notation → Bool → Result Lists ImageFault → List ℕ → Status → Option (List ℕ) →
    Option (List ℕ) →
    Option (List ℕ) → Type 0
EndsGoingOn notation shown (Ok l) lines status rest before now =
    EndsServing (beginning notation shown (file_of l)) lines status rest before now ⊎
    (IsUnread status × Keeps before now)
EndsGoingOn notation shown (Err fault) lines status rest before now = Ends status (Err (Image fault)) before now

-- how `serve` ends on an input that begins with an image
unfoldable pub EndsServingFrom : Notation → Bool → List ℕ → Status → Option (List ℕ) → Option (List ℕ) →
    Option (List ℕ) → Type 0
EndsServingFrom notation shown input status rest before now =
    EndsGoingOn notation shown (reading_of (leading input)) (following input) status rest before now

-- how `serve` ends on lines, where the image is an input of its own
unfoldable pub EndsServingOf : Notation → Bool → List ℕ → List ℕ → Status → Option (List ℕ) → Option (List ℕ) →
    Option (List ℕ) → Type 0
EndsServingOf notation shown image lines status rest before now =
    EndsGoingOn notation shown (reading_of image) lines status rest before now
