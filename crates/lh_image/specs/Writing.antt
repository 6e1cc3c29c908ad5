-- What a writer of images answers
use Rattle.std.specs.Prelude.{◌≡◌, ℕ, ◌<◌, ◌≤◌, List, ◌++◌, Option, Result, Ok, Err}
use Rattle.std.specs.Io.KnownBytes.{Appends, Keeps}
use Rattle.lh_bucket.specs.Listing.{IsFirst, Lists}
use Rattle.lh_image.specs.declared.version.Version.{Version}
use Rattle.lh_image.specs.declared.fault.WriteImageFault.{WriteImageFault}
use Rattle.lh_image.specs.declared.fault.WriteImageFault.TheVariants.{OldCapacity, OldRecord, TooLarge, WriteFault}
use Rattle.lh_image.specs.declared.fault.WriteImageFault.TheVariants.{Memory}
use Rattle.lh_image.specs.Canonical.{canonical, page_total}
use Rattle.lh_image.specs.Fitting.{FitsVersion, IsFitting, IsTooLong}
use Rattle.lh_image.specs.Layout.{most_pages}
use Rattle.lh_image.specs.Version.{format_of, slots}

-- the writer took a beginning of a text
pub record TakesBeginning (before now : Option (List ℕ)) (text : List ℕ) : Type 0 where
  pub taken : List ℕ
  pub left : List ℕ
  pub appended : Appends before now taken
  pub whole : taken ++ left ≡ text

-- The writer took a text, or a beginning of it where a write failed.
abbrev pub IsSent : {E : Type 0} → List ℕ → Result (Unit {0}) E → Option (List ℕ) → Option (List ℕ) → Type 0
IsSent text (Ok done) before now = Appends before now text
IsSent text (Err e) before now = TakesBeginning before now text

-- Why a listing is not written in a version: the pages have not this many slots, or these no room for a record,
-- or there would be too many pages. The first that holds is answered, and of records the one of the least bucket,
-- there at the least place.
abbrev pub IsWriteRefusal : Version → Lists → WriteImageFault → Type 0
IsWriteRefusal version l OldCapacity = slots version < l.config.capacity
IsWriteRefusal version l (OldRecord bucket place) =
    (l.config.capacity ≤ slots version)
    × IsFirst (IsFitting (format_of version)) (IsTooLong (format_of version)) l.lists bucket place
IsWriteRefusal version l TooLarge = FitsVersion version l × (most_pages < page_total l)
IsWriteRefusal version l WriteFault = ⊥
IsWriteRefusal version l Memory = ⊥

-- the version's pages have room for the listing, and there are not too many of them
pub record FitsImage (version : Version) (l : Lists) : Type 0 where
  pub fits : FitsVersion version l
  pub few : page_total l ≤ most_pages

-- A listing that can be written is written as its canonical image, and a beginning of it where a write failed; of one
-- that is refused nothing is.
abbrev pub IsWritten : Version → Lists → Result (Unit {0}) WriteImageFault → Option (List ℕ) → Option (List ℕ) → Type 0
IsWritten version l (Ok done) before now = FitsImage version l × Appends before now (canonical version l)
IsWritten version l (Err WriteFault) before now = FitsImage version l × TakesBeginning before now (canonical version l)
IsWritten version l (Err f) before now = IsWriteRefusal version l f × Keeps before now

-- a fault that is neither of a listing's capacity nor of its records
abbrev pub IsNotOld : WriteImageFault → Type 0
IsNotOld OldCapacity = ⊥
IsNotOld (OldRecord bucket place) = ⊥
IsNotOld f = Unit {0}
