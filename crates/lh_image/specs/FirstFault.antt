-- Which fault of the table is answered
use Rattle.std.specs.Prelude.{◌≡◌, ◌↔◌, ℕ, ◌<◌, ◌≤◌, Bool, true, false, List, Some, None}
use Rattle.lh_image.specs.declared.fault.ImageFault.{ImageFault}
use Rattle.lh_image.specs.declared.fault.ImageFault.TheVariants.{Magic, HeaderField, Counts, Short, Trailing, Kind}
use Rattle.lh_image.specs.declared.fault.ImageFault.TheVariants.{BucketNumber, Level, Used, Next, Twice, Never, Slot}
use Rattle.lh_image.specs.declared.fault.ImageFault.TheVariants.{Misfit, ReadFault, Memory}
use Rattle.lh_image.specs.Faults.{no_magic, has_header, bad_field, bad_counts, is_short, has_trailing, at_head}
use Rattle.lh_image.specs.Faults.{bad_kind, bad_bucket, bad_level, bad_used_at, bad_next, named_twice, on_no_chain}
use Rattle.lh_image.specs.Faults.{has_bad_slot, has_misfit, image_fault}
use Rattle.lh_image.specs.Layout.{header_of, ends_in_zeros, view_of}
use Rattle.lh_image.specs.View.{View, page_count, links}

-- the least number from a first one on, and below an end, for which a condition holds
pub record IsLeastInRange (test : ℕ → Bool) (first end n : ℕ) : Type 0 where
  pub from : first ≤ n
  pub below : n < end
  pub holds : test n ≡ true
  pub least : (m : ℕ) → first ≤ m → m < n → test m ≡ false

-- the number of a fault in the table; 0 for a fault that isn't of the bytes
abbrev pub number : ImageFault → ℕ
number Magic = 1
number (HeaderField offset) = 2
number Counts = 3
number Short = 4
number Trailing = 5
number (Kind p) = 6
number (BucketNumber p) = 7
number (Level p) = 8
number (Used p) = 9
number (Next p) = 10
number (Twice p) = 11
number (Never p) = 12
number (Slot p) = 13
number (Misfit p) = 14
number ReadFault = 0
number Memory = 0

-- The condition of a fault of a page holds, and the page is the least of 1 to P - 1 where it does,
-- or of 0 to P - 1 for the ninth.
abbrev pub AppliesTo : View → ImageFault → Type 0
AppliesTo v (Kind p) = IsLeastInRange (at_head bad_kind v) 1 (page_count v) p
AppliesTo v (BucketNumber p) = IsLeastInRange (at_head bad_bucket v) 1 (page_count v) p
AppliesTo v (Level p) = IsLeastInRange (at_head bad_level v) 1 (page_count v) p
AppliesTo v (Used p) = IsLeastInRange (bad_used_at v) 0 (page_count v) p
AppliesTo v (Next p) = IsLeastInRange (bad_next (links v)) 1 (page_count v) p
AppliesTo v (Twice p) = IsLeastInRange (named_twice (links v)) 1 (page_count v) p
AppliesTo v (Never p) = IsLeastInRange (on_no_chain (links v)) 1 (page_count v) p
AppliesTo v (Slot p) = IsLeastInRange (has_bad_slot v) 1 (page_count v) p
AppliesTo v (Misfit p) = IsLeastInRange (has_misfit v) 1 (page_count v) p
AppliesTo v f = ⊥

-- The condition of a fault holds, and its place is the first where it does.
abbrev pub Applies : List ℕ → ImageFault → Type 0
Applies bytes Magic = no_magic bytes ≡ true
Applies bytes (HeaderField offset) =
    (has_header bytes ≡ true) × (bad_field (header_of bytes) (ends_in_zeros bytes) ≡ Some offset)
Applies bytes Counts = (has_header bytes ≡ true) × (bad_counts (header_of bytes) ≡ true)
Applies bytes Short = is_short bytes ≡ true
Applies bytes Trailing = has_trailing bytes ≡ true
Applies bytes f = AppliesTo (view_of bytes) f

-- A fault is the first where its condition holds and no condition with a lower number does.
pub record IsFirstFault (bytes : List ℕ) (fault : ImageFault) : Type 0 where
  pub applies : Applies bytes fault
  pub first : (other : ImageFault) → number other < number fault → Applies bytes other → ⊥

-- The fault that is answered is the first.
abbrev pub FirstFaultLaw : Type 0
FirstFaultLaw = (bytes : List ℕ) (fault : ImageFault) → (image_fault bytes ≡ Some fault) ↔ IsFirstFault bytes fault

-- No fault is answered exactly where no condition holds.
abbrev pub NoFaultLaw : Type 0
NoFaultLaw = (bytes : List ℕ) → (image_fault bytes ≡ None) ↔ ((fault : ImageFault) → Applies bytes fault → ⊥)
