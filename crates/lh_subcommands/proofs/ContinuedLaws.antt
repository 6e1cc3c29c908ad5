-- What `query` and `apply` do where their input is an image of a listing and a script behind it
use Rattle.std.proofs.Common.{◌≡◌, ◌∙◌, ℕ, List, [], Option, inl, inr, sym, ap, subst, arith}
use Rattle.std.specs.Prelude.{◌++◌, Result, Ok, Err}
use Rattle.std.specs.Io.KnownBytes.{Appends}
use Rattle.lh_bucket.specs.declared.call.Call.{Call}
use Rattle.lh_bucket.specs.Listing.{Lists}
use Rattle.lh_image.specs.declared.fault.ImageFault.{ImageFault}
use Rattle.lh_image.specs.declared.fault.WriteImageFault.{WriteImageFault}
use Rattle.lh_image.specs.declared.fault.WriteImageFault.TheVariants.{OldCapacity, OldRecord, TooLarge, WriteFault}
use Rattle.lh_image.specs.declared.fault.WriteImageFault.TheVariants.{Memory as MemoryToWrite}
use Rattle.lh_image.specs.declared.version.Version.TheVariants.{Two}
use Rattle.lh_image.specs.Canonical.{canonical}
use Rattle.lh_image.specs.Counted.{CensusLaw}
use Rattle.lh_image.specs.Image.{IsImage, OneListingLaw}
use Rattle.lh_image.specs.Layout.{view_of}
use Rattle.lh_image.specs.Reading.{LeadingLaw, following, judged_by, leading, reading_of}
use Rattle.lh_image.specs.Writing.{IsWriteRefusal}
use Rattle.lh_page.specs.Records.{no_pair}
use Rattle.lh_script.specs.Commands.{command}
use Rattle.lh_script.specs.Scripts.{script}
use Rattle.lh_script.specs.declared.fault.ScriptFault.{ScriptFault}
use Rattle.lh_subcommands.specs.Continued.{EndsApplying, EndsApplyingTo, EndsLeaving, IsLeft, query_due}
use Rattle.lh_subcommands.specs.Continued.{query_due_of, replies_due}
use Rattle.lh_subcommands.specs.ContinuedLaws.{ScriptApartLaw, ApplyLaw, MigrateLaw, QueryLaw}
use Rattle.lh_subcommands.specs.Devices.{TakesBeginning}
use Rattle.lh_subcommands.specs.Images.{EndsInImage, migrate_due, text_or_fault}
use Rattle.lh_subcommands.specs.Run.{Ends}
use Rattle.lh_subcommands.specs.declared.status.DeviceFault.TheVariants.{Read, Write}
use Rattle.lh_subcommands.specs.declared.status.InputFault.TheVariants.{Script, Image, Load, Unwritten}
use Rattle.lh_subcommands.specs.declared.status.Status.{Status}
use Rattle.lh_subcommands.specs.declared.status.Status.TheVariants.{Done, Input, Words, Device, KeyAbsent, Memory}
use Rattle.lh_subcommands.specs.declared.status.Status.TheVariants.{NotSettled}
use Rattle.lh_subcommands.proofs.Inspecting.{few_pages}

-- an image is read as its listing
image_read : OneListingLaw → (image : List ℕ) (l : Lists) → IsImage image l → reading_of image ≡ Ok l
unfolding reading_of
image_read one image l h =
    let is = one image l h in
    ap (λ f. judged_by f (view_of image)) is.0 ∙ ap Ok (sym is.1)

leading_read : LeadingLaw → OneListingLaw → (image text : List ℕ) (l : Lists) → IsImage image l →
    reading_of (leading (image ++ text)) ≡ Ok l
leading_read leads one image text l h = ap reading_of (leads image text l h).0 ∙ image_read one image l h

-- `query` answers what the plain map of the listing answers to the script's calls, or the script's first fault
pub query_law : LeadingLaw → OneListingLaw → QueryLaw
unfolding query_due
query_law leads one k image text l h =
    let read = leading_read leads one image text l h in
    let rest = (leads image text l h).1 in
    λ i. replies_due k (read i) (script (command k) (rest i))

-- `apply` writes the canonical image of the listing that the calls leave, or ends at the script's first fault
pub apply_law : LeadingLaw → OneListingLaw → ApplyLaw
unfolding EndsApplying
apply_law leads one k version image text l status before now h ends =
    subst (λ (file : Result Lists ImageFault). EndsLeaving version status file (script (command k) text) before now)
    (leading_read leads one image text l h)
    (subst
    (λ (t : List ℕ).
    EndsLeaving version status (reading_of (leading (image ++ text))) (script (command k) t) before now)
    (leads image text l h).1 ends)

-- the listing of an image has an image of version 2
never_refused : CensusLaw → (image : List ℕ) (l : Lists) → IsImage image l → (fault : WriteImageFault) →
    IsWriteRefusal Two l fault → ⊥
never_refused census image l h OldCapacity r = omega (arith, r, h.2.shown.listing.config.capacity.1)
never_refused census image l h (OldRecord bucket place) r =
    let fits = h.2.shown.listing.records bucket place no_pair r.1.within in
    elim r.1.fault [ inl key ↦ omega (arith, key, fits.key.1) | inr value ↦ omega (arith, value, fits.value) ]
never_refused census image l h TooLarge r = omega (arith, r.1, few_pages census image l h)
never_refused census image l h WriteFault r = r
never_refused census image l h MemoryToWrite r = r

same_calls : (given : Result (List Call) ScriptFault) (calls : List Call) → given ≡ Ok [] → given ≡ Ok calls →
    calls ≡ []
same_calls given calls none is = cc

no_fault : {P : Type 0} (given : Result (List Call) ScriptFault) (fault : ScriptFault) → given ≡ Ok [] →
    given ≡ Err fault → P
no_fault given fault none is = cc

-- without calls the image's own listing is written
without_calls : CensusLaw → (image : List ℕ) (l : Lists) → IsImage image l → migrate_due image ≡ Ok (canonical Two l) →
    (status : Status) (given : Result (List Call) ScriptFault) (before now : Option (List ℕ)) → given ≡ Ok [] →
    EndsInImage (IsLeft l) Two status given before now → Ends status (migrate_due image) before now
without_calls census image l h due Done given before now none (calls, output, is, made, took) =
    let same = made.led.unchanged (same_calls given calls none is) in
    (canonical Two l, due, subst (Appends before now) (made.bytes ∙ ap (canonical Two) same) took)
without_calls census image l h due (Input (Script fault)) given before now none (is, keeps) =
    no_fault given fault none is
without_calls census image l h due (Input (Image fault)) given before now none ends = absurd ends
without_calls census image l h due (Input (Unwritten fault)) given before now none (calls, is, refused, keeps) =
    let same = refused.led.unchanged (same_calls given calls none is) in
    absurd (never_refused census image l h fault
    (subst (λ (x : Lists). IsWriteRefusal Two x fault) same refused.refused))
without_calls census image l h due (Input (Load fault)) given before now none ends = absurd ends
without_calls census image l h due (Words text) given before now none ends = absurd ends
without_calls census image l h due (Device Read) given before now none ends = ends
without_calls census image l h due (Device Write) given before now none (calls, output, is, made, took) =
    let same = made.led.unchanged (same_calls given calls none is) in
    (canonical Two l, due, subst (TakesBeginning before now) (made.bytes ∙ ap (canonical Two) same) took)
without_calls census image l h due Memory given before now none ends = ends
without_calls census image l h due (NotSettled fault) given before now none ends = absurd ends
without_calls census image l h due KeyAbsent given before now none ends = absurd ends

-- `apply` of a script without calls ends as `migrate` does for the image alone
pub migrate_law : LeadingLaw → OneListingLaw → CensusLaw → MigrateLaw
unfolding migrate_due
migrate_law leads one census k image text l status before now h none ends =
    without_calls census image l h (ap (text_or_fault (canonical Two)) (image_read one image l h)) status
    (script (command k) text) before now none
    (apply_law leads one k Two image text l status before now h ends)

-- an image and a script apart are due what they are in one input
pub apart_law : LeadingLaw → ScriptApartLaw
unfolding query_due query_due_of EndsApplying EndsApplyingTo
apart_law leads = record {
  query = λ k image text l h.
      let parts = leads image text l h in
      λ i. replies_due k (reading_of (sym parts.0 i)) (script (command k) (sym parts.1 i));
  apply = λ k version image text l status before now h ends.
      let parts = leads image text l h in
      subst (λ (held : List ℕ).
      EndsLeaving version status (reading_of held) (script (command k) (following (image ++ text))) before now)
      (sym parts.0)
      (subst (λ (t : List ℕ). EndsLeaving version status (reading_of image) (script (command k) t) before now)
      (sym parts.1) ends);
}
