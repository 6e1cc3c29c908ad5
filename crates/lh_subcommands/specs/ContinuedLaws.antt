-- What `query` and `apply` do where their input is an image of a listing and a script behind it
use Rattle.std.specs.Prelude.{◌≡◌, ℕ, List, [], ◌++◌, Option, Ok}
use Rattle.lh_bucket.specs.Listing.{Lists, size}
use Rattle.lh_core.specs.Opened.{records_of}
use Rattle.lh_image.specs.Image.{IsImage}
use Rattle.lh_image.specs.declared.version.Version.{Version}
use Rattle.lh_image.specs.declared.version.Version.TheVariants.{Two}
use Rattle.lh_script.specs.Commands.{command}
use Rattle.lh_script.specs.Scripts.{script}
use Rattle.lh_script.specs.declared.notation.Notation.{Notation}
use Rattle.lh_subcommands.specs.Continued.{EndsApplying, EndsApplyingTo, IsLeft, query_due, query_due_of}
use Rattle.lh_subcommands.specs.Images.{EndsInImage, migrate_due}
use Rattle.lh_subcommands.specs.Run.{Ends, due, replies_text}
use Rattle.lh_subcommands.specs.declared.status.Status.{Status}

-- `query` answers what the plain map of the listing answers to the script's calls, or the script's first fault.
abbrev pub QueryLaw : Type 0
QueryLaw =
    (notation : Notation) (image text : List ℕ) (l : Lists) → IsImage image l →
    query_due notation (image ++ text)
    ≡ due (replies_text notation l.config (records_of l) (size l)) (script (command notation) text)

-- `apply` writes the canonical image of the listing that the script's calls leave, or ends at the script's first fault.
abbrev pub ApplyLaw : Type 0
ApplyLaw =
    (notation : Notation) (version : Version) (image text : List ℕ) (l : Lists) (status : Status)
    (before now : Option (List ℕ)) →
    IsImage image l → EndsApplying notation version (image ++ text) status before now →
    EndsInImage (IsLeft l) version status (script (command notation) text) before now

-- `apply` of a script without calls ends as `migrate` does for the image alone.
abbrev pub MigrateLaw : Type 0
MigrateLaw =
    (notation : Notation) (image text : List ℕ) (l : Lists) (status : Status) (before now : Option (List ℕ)) →
    IsImage image l → script (command notation) text ≡ Ok [] →
    EndsApplying notation Two (image ++ text) status before now →
    Ends status (migrate_due image) before now

-- `query` and `apply` of an image that is an input of its own, and of a script, do what they do of both in one input.
pub record ScriptApartLaw : Type 0 where
  pub query : (notation : Notation) (image text : List ℕ) (l : Lists) → IsImage image l →
      query_due_of notation image text ≡ query_due notation (image ++ text)
  pub apply : (notation : Notation) (version : Version) (image text : List ℕ) (l : Lists) (status : Status)
      (before now : Option (List ℕ)) →
      IsImage image l → EndsApplyingTo notation version image text status before now →
      EndsApplying notation version (image ++ text) status before now
