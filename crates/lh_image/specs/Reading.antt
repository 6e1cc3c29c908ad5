-- What a reader of images answers
use Rattle.std.specs.Prelude.{◌≡◌, ℕ, ◌+◌, max, List, ◌++◌, Option, Some, None, Result, Ok, Err, take, drop}
use Rattle.std.specs.Io.KnownBytes.{Consumes, IsAtEnd}
use Rattle.lh_bucket.specs.Listing.{Lists}
use Rattle.lh_image.specs.declared.fault.ImageFault.{ImageFault}
use Rattle.lh_image.specs.declared.fault.ImageFault.TheVariants.{Magic, HeaderField, Counts, Trailing, ReadFault}
use Rattle.lh_image.specs.declared.fault.ImageFault.TheVariants.{Memory}
use Rattle.lh_image.specs.Faults.{page_fault, image_fault}
use Rattle.lh_image.specs.Image.{IsImage, listing_of}
use Rattle.lh_image.specs.Layout.{image_bytes, view_of}
use Rattle.lh_image.specs.Version.{page_bytes, version_of}
use Rattle.lh_image.specs.View.{View}

-- a fault where there is one, or else the listing that pages show
abbrev pub judged_by : Option ImageFault → View → Result Lists ImageFault
judged_by (Some f) v = Err f
judged_by None v = Ok (listing_of v)

-- what is to be answered to pages: their first fault, or their listing
abbrev pub judged : View → Result Lists ImageFault
judged v = judged_by (page_fault v) v

-- what is to be answered to some bytes: their first fault, or their listing
unfoldable pub reading_of : List ℕ → Result Lists ImageFault
reading_of bytes = judged_by (image_fault bytes) (view_of bytes)

-- A failed read and out of memory say nothing of the bytes; every other fault is the one that is due.
abbrev pub IsDueFault : ImageFault → Result Lists ImageFault → Type 0
IsDueFault ReadFault due = Unit {0}
IsDueFault Memory due = Unit {0}
IsDueFault f due = due ≡ Err f

-- an answer, made of a listing or not, is the one that is due
abbrev pub IsDueAnswer : {X : Type 0} → (X → Lists → Type 0) → Result X ImageFault → Result Lists ImageFault → Type 0
IsDueAnswer Shows (Ok x) due = (l : Lists) × (due ≡ Ok l) × Shows x l
IsDueAnswer Shows (Err f) due = IsDueFault f due

-- What is left of the reader's bytes: nothing after an answer that says so, all but the first page after the faults of
-- the header, and after trailing bytes all but one byte past the last page.
abbrev pub Leaves : {X : Type 0} → Result X ImageFault → List ℕ → Option (List ℕ) → Type 0
Leaves (Ok x) bytes now = IsAtEnd now
Leaves (Err Magic) bytes now = Consumes (Some bytes) now (take (page_bytes (version_of bytes)) bytes)
Leaves (Err (HeaderField offset)) bytes now = Consumes (Some bytes) now (take (page_bytes (version_of bytes)) bytes)
Leaves (Err Counts) bytes now = Consumes (Some bytes) now (take (page_bytes (version_of bytes)) bytes)
Leaves (Err Trailing) bytes now = Consumes (Some bytes) now (take (image_bytes bytes + 1) bytes)
Leaves (Err f) bytes now = Unit {0}

-- ---- an image that other bytes may follow

-- how many bytes are the image's: those of its pages, or of the first one, where the header says that it has none
abbrev pub leading_size : List ℕ → ℕ
leading_size bytes = max (page_bytes (version_of bytes)) (image_bytes bytes)

-- the bytes of the image, all of them where there are fewer
unfoldable pub leading : List ℕ → List ℕ
leading bytes = take (leading_size bytes) bytes

-- the bytes that follow the image
unfoldable pub following : List ℕ → List ℕ
following bytes = drop (leading_size bytes) bytes

-- What is left after an image that others may follow: those alone. After a fault it is as for a whole input.
abbrev pub LeavesFollowing : {X : Type 0} → Result X ImageFault → List ℕ → Option (List ℕ) → Type 0
LeavesFollowing (Ok x) bytes now = now ≡ Some (following bytes)
LeavesFollowing (Err f) bytes now = Leaves {X = Lists} (Err f) bytes now

-- Of an image with other bytes behind it, the image is what leads, and they are what follows.
abbrev pub LeadingLaw : Type 0
LeadingLaw =
    (bytes rest : List ℕ) (l : Lists) → IsImage bytes l →
    (leading (bytes ++ rest) ≡ bytes) × (following (bytes ++ rest) ≡ rest)
